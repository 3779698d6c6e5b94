use Rattle.f77_symbolic.proofs.Common.{ℕ, ◌+◌, ◌<◌, IsKnownAt}
use Rattle.f77_symbolic.proofs.memory.known_of_all.Given as goal

abbrev pub invariant-loop-behind : goal.invariant-loop-behind
invariant-loop-behind l = (k : ℕ) → k < l.behind → IsKnownAt l.facts (l.first + k) l.fact
