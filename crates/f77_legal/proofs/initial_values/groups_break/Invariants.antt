use Rattle.f77_legal.proofs.Common.{◌≡◌, map, ◌++◌, drop, array_bounds, kind_at, dummy_at, names_held, groups_break, names_of_groups, data_group_of}
use Rattle.f77_legal.proofs.initial_values.groups_break.Given as goal

-- the other groups decide, behind the names that are noted
abbrev pub invariant-loop-group : goal.invariant-loop-group
invariant-loop-group l = record {
  held : names_held l.seen.keys ++ names_of_groups (map data_group_of (drop l.group-index l.groups)) ≡ names_held l.fn.seen.keys ++ names_of_groups (map data_group_of l.groups);
  same : groups_break (array_bounds l.names) (kind_at l.names) (dummy_at l.names) (names_held l.fn.seen.keys) (map data_group_of l.groups)
      ≡ groups_break (array_bounds l.names) (kind_at l.names) (dummy_at l.names) (names_held l.seen.keys) (map data_group_of (drop l.group-index l.groups));
}
