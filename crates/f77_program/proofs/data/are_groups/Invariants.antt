use Rattle.f77_program.proofs.Common.{◌≡◌, map, drop, list_all, is_group, data_group_of, is_symbolic}
use Rattle.f77_program.proofs.data.are_groups.Given as goal

-- the answer rests on the other groups
abbrev pub invariant-loop-group : goal.invariant-loop-group
invariant-loop-group l =
    list_all (is_group is_symbolic) (map data_group_of l.groups) ≡ list_all (is_group is_symbolic) (map data_group_of (drop l.group-index l.groups))
