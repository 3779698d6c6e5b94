use Rattle.mothra_bench.proofs.Common.{◌≡◌, length, [], All}
use Rattle.mothra_bench.proofs.row_map.no_rows.Given as goal

abbrev pub invariant-loop : goal.invariant-loop
invariant-loop l = (length l.lists.items ≡ l.counter) × All (λ list. list.items ≡ []) l.lists.items
