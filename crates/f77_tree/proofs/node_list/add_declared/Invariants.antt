use Rattle.f77_tree.proofs.Common.{map, ◌≡◌, drop, ◌++◌, NodeOf, node_of, decl_of}
use Rattle.f77_tree.proofs.node_list.add_declared.Given as goal

abbrev pub invariant-loop-item : goal.invariant-loop-item
invariant-loop-item l = map node_of l.list.items ++ map NodeOf.Declared (map decl_of (drop l.item-index l.items))
    ≡ map node_of l.initial.list.items ++ map NodeOf.Declared (map decl_of l.items)
