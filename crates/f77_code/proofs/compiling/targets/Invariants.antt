use Rattle.f77_code.proofs.Common.{◌≡◌, take, map, Jump}
use Rattle.f77_code.proofs.compiling.targets.Given as goal

abbrev pub invariant-loop-jump : goal.invariant-loop-jump
invariant-loop-jump l = l.places.items ≡ map (λ (jump : Jump). jump.target) (take l.jump-index l.jumps)
