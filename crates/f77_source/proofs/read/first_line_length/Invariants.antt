use Rattle.f77_source.proofs.Common.{ℕ, ◌<◌, get_or, ◌≢◌}
use Rattle.f77_source.proofs.read.first_line_length.Given as goal

abbrev pub invariant-loop-i : goal.invariant-loop-i
invariant-loop-i l = (k : ℕ) → k < l.i → get_or l.source k 0 ≢ 10
