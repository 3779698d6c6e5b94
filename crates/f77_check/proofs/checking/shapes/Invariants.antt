use Rattle.f77_check.proofs.Common.{◌≡◌, map, take, shape_at}
use Rattle.f77_check.proofs.checking.shapes.Given as goal

abbrev pub invariant-loop-name : goal.invariant-loop-name
invariant-loop-name l = l.shapes.items ≡ map (shape_at l.names) (take l.name-index l.list)
