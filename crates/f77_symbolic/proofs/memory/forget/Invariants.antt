use Rattle.f77_symbolic.proofs.Common.{◌≡◌}
use Rattle.f77_symbolic.proofs.memory.forget.Given as goal

abbrev pub invariant-loop-place : goal.invariant-loop-place
invariant-loop-place l = l.writes.items ≡ l.fn.writes.items
