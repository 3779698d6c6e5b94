use Rattle.f77_legal.proofs.Common.{◌≡◌, length, ◌<◌, drop, pointwise, array_bounds, kind_at, kinds_left, kinds_needed, fills, same_kind, data_group_of}
use Rattle.f77_legal.proofs.initial_values.is_filled.Given as goal

-- the other names decide
abbrev pub invariant-loop-name : goal.invariant-loop-name
invariant-loop-name l = record {
  few : length (kinds_left l.rest) < l.most;
  filled : fills (array_bounds l.names) (kind_at l.names) (data_group_of l.group)
      ≡ pointwise same_kind (kinds_needed (array_bounds l.names) (kind_at l.names) (drop l.name-index l.group.names.items)) (kinds_left l.rest);
}
