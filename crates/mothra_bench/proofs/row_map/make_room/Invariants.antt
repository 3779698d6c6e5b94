use Rattle.mothra_bench.proofs.Common.{◌≡◌, length, ℕ, row_at}
use Rattle.mothra_bench.proofs.row_map.make_room.Given as goal

abbrev pub invariant-loop : goal.invariant-loop
invariant-loop l = (length l.list.items ≡ l.counter) × ((k : ℕ) → row_at l.list.items k ≡ row_at l.fn.list.items k)
