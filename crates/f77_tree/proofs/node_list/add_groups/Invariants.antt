use Rattle.f77_tree.proofs.Common.{map, ◌≡◌, drop, ◌++◌, node_of, data_group_of, group_nodes}
use Rattle.std.proofs.Common.{flat_map}
use Rattle.f77_tree.proofs.node_list.add_groups.Given as goal

abbrev pub invariant-loop-group : goal.invariant-loop-group
invariant-loop-group l = map node_of l.list.items ++ flat_map group_nodes (map data_group_of (drop l.group-index l.groups))
    ≡ map node_of l.initial.list.items ++ flat_map group_nodes (map data_group_of l.groups)
