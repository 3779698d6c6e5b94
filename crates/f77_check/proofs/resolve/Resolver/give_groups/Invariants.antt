use Rattle.f77_check.proofs.Common.{◌≡◌, map, take, give_groups, array_bounds, keys}
use Rattle.f77_tree.specs.Data.{data_group_of}
use Rattle.f77_check.proofs.resolve.Resolver.give_groups.Given as goal

abbrev pub invariant-loop-group : goal.invariant-loop-group
invariant-loop-group l = l.held ≡ give_groups (array_bounds l.self.tables.names) (keys l.self.tables.names.facts) l.fn.held (map data_group_of (take l.group-index l.groups))
