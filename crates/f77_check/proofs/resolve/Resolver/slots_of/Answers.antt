use Rattle.f77_check.proofs.Common.{◌≡◌, ap, ◌∙◌, sym, map, [], arith, ◌∷◌, ◌++◌, take, ◌+◌, ◌≤◌, append-nil, append_assoc, flat_map-append, flat_map}
use Rattle.f77_check.proofs.Common.{option_map_or, slot_count, is_kept, slots_of, table_more, one_more, first_numbers, product, array_bounds, keys}
use Rattle.f77_check.proofs.Cells.{slots_end}
use Rattle.f77_check.proofs.DataNames.{all_at, kept_among}
use Rattle.f77_check.proofs.resolve.Resolver.slots_of.Goals as goal

pub overflow_add-first : goal.overflow_add-first
overflow_add-first c =
    let names = c.args.self.now.tables.names in
    let bounds = array_bounds names in
    let name = c.name-item.result in
    let kept = all_at (is_kept names) c.args.list.now c.loop-name.name-index name c.requires.kept c.loop-name-test.true c.name-item.is in
    let within : c.first-first.result + product (bounds name) ≤ slot_count bounds (keys names.facts) =
    slots_end bounds (keys names.facts) name c.first-first.result (sym (kept_among names name) ∙ kept) c.first-first.ensures in
    let size = ap product c.bounds.ensures in
    omega (arith, within, size, c.requires.slots.few, c.product-k-end.ensures)

pub loop-k-preserved : goal.loop-k-preserved
loop-k-preserved c =
    let names = c.args.self.now.tables.names in
    let before = flat_map (slots_of (array_bounds names) (keys names.facts)) (take c.loop-name.name-index c.args.list.now) in
    c.in_ok-push.ensures.items
    ∙ ap (λ slots. slots ++ (c.first-first.result + c.loop-k.k) ∷ []) c.loop-k.invariant
    ∙ append_assoc before (map (λ k. c.first-first.result + k) (first_numbers c.loop-k.k)) ((c.first-first.result + c.loop-k.k) ∷ [])
    ∙ ap (λ slots. before ++ slots) (sym (table_more (λ k. c.first-first.result + k) c.loop-k.k))

pub loop-name-preserved : goal.loop-name-preserved
loop-name-preserved c =
    let names = c.args.self.now.tables.names in
    let bounds = array_bounds names in
    let list = c.args.list.now in
    let i = c.loop-name.name-index in
    let name = c.name-item.result in
    let slots = slots_of bounds (keys names.facts) in
    let before = flat_map slots (take i list) in
    let kept = all_at (is_kept names) list i name c.requires.kept c.loop-name-test.true c.name-item.is in
    let within : c.first-first.result + product (bounds name) ≤ slot_count bounds (keys names.facts) =
    slots_end bounds (keys names.facts) name c.first-first.result (sym (kept_among names name) ∙ kept) c.first-first.ensures in
    let size = ap product c.bounds.ensures in
    let all : c.loop-k.k ≡ product (bounds name) = omega (arith, within, size, c.requires.slots.few, c.product-k-end.ensures) in
    c.loop-k.invariant
    ∙ ap (λ n. before ++ map (λ k. c.first-first.result + k) (first_numbers n)) all
    ∙ ap (λ o. before ++ option_map_or (λ first. map (λ k. first + k) (first_numbers (product (bounds name)))) o []) (sym c.first-first.ensures)
    ∙ ap (λ own. before ++ own) (sym (append-nil (slots name)))
    ∙ sym (flat_map-append slots (take i list) (name ∷ []))
    ∙ ap (flat_map slots) (sym (one_more list i name c.loop-name-test.true c.name-item.is))
