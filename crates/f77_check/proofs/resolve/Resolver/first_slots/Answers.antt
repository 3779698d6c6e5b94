use Rattle.f77_check.proofs.Common.{ap, ◌∙◌, sym, map, ℕ, [], ◌∷◌, Some, ◌++◌, get_or, Option, map-append, map_more, first_slot, array_bounds, Symbol, keys}
use Rattle.f77_check.proofs.resolve.Resolver.first_slots.Goals as goal

pub loop-name-preserved : goal.loop-name-preserved
loop-name-preserved c =
    let slot : Symbol → Option ℕ = first_slot (array_bounds c.args.self.now.tables.names) (keys c.args.self.now.tables.names.facts) in
    let i = c.loop-name.name-index in
    let name = c.name-item.result in
    let slots = c.loop-name.slots.items in
    map_more slot c.args.list.now i name c.loop-name-test.true
    ∙ ap (λ before. before ++ slot (get_or c.args.list.now i name) ∷ []) c.loop-name.invariant
    ∙ ap (λ last. map (λ slot. Some slot) slots ++ last ∷ []) (ap slot (sym c.name-item.is) ∙ c.first.ensures)
    ∙ sym (map-append (λ slot. Some slot) slots (c.first.result ∷ []))
    ∙ ap (map (λ slot. Some slot)) (sym c.in_ok-push.ensures.items)
