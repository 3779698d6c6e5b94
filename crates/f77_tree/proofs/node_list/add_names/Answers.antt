use Rattle.f77_tree.proofs.Common.{map, refl, [], ◌∷◌, NodeOf, node_of}
use Rattle.f77_tree.proofs.Walks.{one_more, all_listed, pushed}
use Rattle.f77_tree.proofs.node_list.add_names.Goals as goal

pub loop-name-preserved : goal.loop-name-preserved
loop-name-preserved c =
    one_more (λ x. NodeOf.Named x ∷ []) (λ xs. map NodeOf.Named xs) refl (λ x xs. refl) c.args.names.now c.loop-name.name-index c.name-item.result
    (map node_of c.loop-name.list.items) (map node_of c.push.new.self.items) _ c.loop-name-test.true c.name-item.is
    (pushed c.loop-name.list.items c.push.new.self.items _ c.in_ok-push.ensures.items) c.loop-name.invariant

pub returns : goal.returns
returns c =
    all_listed (λ x. NodeOf.Named x ∷ []) (λ xs. map NodeOf.Named xs) refl (λ x xs. refl) c.args.names.now c.loop-name.name-index
    (map node_of c.loop-name.list.items) _ c.loop-name-test.false c.loop-name.invariant
