use Rattle.f77_tree.proofs.Common.{map, refl, [], ◌∷◌, get_or_default, NodeOf, node_of}
use Rattle.f77_tree.proofs.Walks.{one_more, all_listed, pushed}
use Rattle.f77_tree.proofs.node_list.add_values.Goals as goal

pub loop-value-preserved : goal.loop-value-preserved
loop-value-preserved c =
    one_more (λ x. NodeOf.Initial x ∷ []) (λ xs. map NodeOf.Initial xs) refl (λ x xs. refl) c.args.values.now c.loop-value.value-index _
    (map node_of c.loop-value.list.items) (map node_of c.push.new.self.items) _ c.loop-value-test.true
    (get_or_default c.args.values.now c.loop-value.value-index _ _ c.loop-value-test.true)
    (pushed c.loop-value.list.items c.push.new.self.items _ c.in_ok-push.ensures.items) c.loop-value.invariant

pub returns : goal.returns
returns c =
    all_listed (λ x. NodeOf.Initial x ∷ []) (λ xs. map NodeOf.Initial xs) refl (λ x xs. refl) c.args.values.now c.loop-value.value-index
    (map node_of c.loop-value.list.items) _ c.loop-value-test.false c.loop-value.invariant
