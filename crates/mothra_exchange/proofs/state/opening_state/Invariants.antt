use Rattle.mothra_exchange.proofs.Common.{◌≡◌, ◌<◌, ℕ, length, get_or, opening_word}
use Rattle.mothra_exchange.proofs.state.opening_state.Given as goal

abbrev pub invariant-loop-i : goal.invariant-loop-i
invariant-loop-i l = (length l.words ≡ 22) × ((k : ℕ) → k < l.i → get_or l.words k (opening_word 0) ≡ opening_word (get_or l.counts k 0))
