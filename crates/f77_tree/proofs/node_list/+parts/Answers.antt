use Rattle.f77_tree.proofs.Common.{map, refl, map-append, NodeOf, node_of, tree_of, trees, all_parts, parts, tree_nodes}
use Rattle.f77_tree.proofs.Walks.{one_more, all_listed}
use Rattle.f77_tree.proofs.node_list.+parts.Goals as goal

pub add_items-loop-item-preserved : goal.add_items-loop-item-preserved
add_items-loop-item-preserved t c =
    one_more (λ x. tree_nodes (tree_of x)) (λ xs. map NodeOf.Part (all_parts (trees (map tree_of xs)))) refl
    (λ x xs. map-append NodeOf.Part (parts (tree_of x)) (all_parts (trees (map tree_of xs)))) c.args.items.now c.loop-item.item-index
    c.item-item.result (map node_of c.loop-item.list.items) (map node_of c.add_tree.new.list.items) _ c.loop-item-test.true c.item-item.is
    c.in_ok-add_tree.ensures c.loop-item.invariant

pub add_items-returns : goal.add_items-returns
add_items-returns t c =
    all_listed (λ x. tree_nodes (tree_of x)) (λ xs. map NodeOf.Part (all_parts (trees (map tree_of xs)))) refl
    (λ x xs. map-append NodeOf.Part (parts (tree_of x)) (all_parts (trees (map tree_of xs)))) c.args.items.now c.loop-item.item-index
    (map node_of c.loop-item.list.items) _ c.loop-item-test.false c.loop-item.invariant
