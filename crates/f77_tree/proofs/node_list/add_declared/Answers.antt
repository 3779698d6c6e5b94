use Rattle.f77_tree.proofs.Common.{map, refl, [], ◌∷◌, NodeOf, node_of, decl_of}
use Rattle.f77_tree.proofs.Walks.{one_more, all_listed, pushed}
use Rattle.f77_tree.proofs.node_list.add_declared.Goals as goal

pub loop-item-preserved : goal.loop-item-preserved
loop-item-preserved c =
    one_more (λ x. NodeOf.Declared (decl_of x) ∷ []) (λ xs. map NodeOf.Declared (map decl_of xs)) refl (λ x xs. refl) c.args.items.now c.loop-item.item-index c.item-item.result
    (map node_of c.loop-item.list.items) (map node_of c.push.new.self.items) _ c.loop-item-test.true c.item-item.is
    (pushed c.loop-item.list.items c.push.new.self.items _ c.in_ok-push.ensures.items) c.loop-item.invariant

pub returns : goal.returns
returns c =
    all_listed (λ x. NodeOf.Declared (decl_of x) ∷ []) (λ xs. map NodeOf.Declared (map decl_of xs)) refl (λ x xs. refl) c.args.items.now c.loop-item.item-index
    (map node_of c.loop-item.list.items) _ c.loop-item-test.false c.loop-item.invariant
