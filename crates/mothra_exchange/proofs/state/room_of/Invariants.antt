use Rattle.mothra_exchange.proofs.Common.{◌≡◌, ◌+◌, ◌≤◌, map, ◌*◌, take, opening_word, largest_count, room}
use Rattle.mothra_exchange.proofs.state.room_of.Given as goal

abbrev pub invariant-loop-i : goal.invariant-loop-i
invariant-loop-i l = (l.total ≡ room (map opening_word (take l.i l.counts))) × (l.total ≤ l.i * (2 * largest_count + 1))
