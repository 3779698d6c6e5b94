use Rattle.mothra_exchange.proofs.Common.{◌≡◌, ◌<◌, ℕ, length, get_or}
use Rattle.mothra_exchange.proofs.table.opening_words.Given as goal

abbrev pub invariant-loop-i : goal.invariant-loop-i
invariant-loop-i l = (length l.words ≡ 22) × ((k : ℕ) → k < l.i → get_or l.words k 0 ≡ get_or l.counts k 0)
