use Rattle.mothra_exchange.proofs.Common.{◌<◌, ℕ, ◌≤◌, get_or, largest_count}
use Rattle.mothra_exchange.proofs.fault.first_too_large.Given as goal

abbrev pub invariant-loop-i : goal.invariant-loop-i
invariant-loop-i l = (k : ℕ) → k < l.i → get_or l.counts k 0 ≤ largest_count
