use Rattle.mothra_bench.proofs.Common.{◌≡◌, length, [], All, take, Some, slice_get, counts, entries_of, index, Op}
use Rattle.mothra_bench.proofs.counts.Counts.of_operators.Given as goal

abbrev pub invariant-loop : goal.invariant-loop
invariant-loop l = (length l.list.items ≡ l.counter) × All (λ c. c ≡ counts []) l.list.items

abbrev pub invariant-loop-entry : goal.invariant-loop-entry
invariant-loop-entry l =
    (length l.list.items ≡ 22)
    × ((op : Op) → slice_get l.list.items (index op) ≡ Some (counts (entries_of op (take l.entry-index l.entries))))
