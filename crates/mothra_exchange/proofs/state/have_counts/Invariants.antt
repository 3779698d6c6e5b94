use Rattle.mothra_exchange.proofs.Common.{◌≡◌, ◌<◌, ℕ, get_or, opening_word}
use Rattle.mothra_exchange.proofs.state.have_counts.Given as goal

abbrev pub invariant-loop-i : goal.invariant-loop-i
invariant-loop-i l = (k : ℕ) → k < l.i → (get_or l.words k (opening_word 0)).count ≡ get_or l.counts k 0
