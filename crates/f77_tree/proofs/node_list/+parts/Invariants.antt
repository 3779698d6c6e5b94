use Rattle.f77_tree.proofs.Common.{map, ◌≡◌, drop, ◌++◌, NodeOf, node_of, tree_of, trees, all_parts}
use Rattle.f77_tree.proofs.node_list.+parts.Given as goal

abbrev pub invariant-add_items-loop-item : goal.invariant-add_items-loop-item
invariant-add_items-loop-item l = map node_of l.list.items ++ map NodeOf.Part (all_parts (trees (map tree_of (drop l.item-index l.items))))
    ≡ map node_of l.initial.list.items ++ map NodeOf.Part (all_parts (trees (map tree_of l.items)))
