use Rattle.f77_tree.proofs.Common.{map, refl, ◌≡◌, ℕ, sym, ◌∙◌, List, [], ◌∷◌, Some, slice_get, NodeOf, node_of, statement_of, jumps_of}
use Rattle.std.proofs.lemmas.Option.{slice_get_within, get_or_from_slice_get}
use Rattle.f77_tree.proofs.Walks.{one_more, pushed}
use Rattle.f77_tree.proofs.node_list.add_jumps.Goals as goal

pub loop-k-preserved : goal.loop-k-preserved
loop-k-preserved c =
    let jumps : List ℕ = jumps_of (statement_of c.args.stmt.now) in
    let here : slice_get jumps c.loop-k.k ≡ Some c.in-Some.label = sym c.jump.ensures ∙ c.in-Some.is in
    one_more (λ x. NodeOf.Labelled x ∷ []) (map NodeOf.Labelled) refl (λ x xs. refl) jumps c.loop-k.k c.in-Some.label
    (map node_of c.loop-k.list.items) (map node_of c.push.new.self.items) _
    (slice_get_within jumps c.loop-k.k c.in-Some.label here) (sym (get_or_from_slice_get jumps c.loop-k.k c.in-Some.label c.in-Some.label here))
    (pushed c.loop-k.list.items c.push.new.self.items _ c.in_ok-push.ensures.items) c.loop-k.invariant
