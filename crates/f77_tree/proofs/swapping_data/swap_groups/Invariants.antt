use Rattle.f77_tree.proofs.Common.{map, drop, take, data_group_of, group_sites, replacement_of}
use Rattle.f77_tree.proofs.Passes.{Passing}
use Rattle.f77_tree.proofs.swapping_data.swap_groups.Given as goal

abbrev pub invariant-loop-group : goal.invariant-loop-group
invariant-loop-group l =
    Passing group_sites (map data_group_of (take l.group-index l.groups)) (map data_group_of (drop l.group-index l.groups)) (map data_group_of l.fn.groups)
    l.fn.number l.number (replacement_of l.fn.node) (replacement_of l.node)
