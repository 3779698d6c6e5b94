use Rattle.mothra_bench.proofs.Common.{◌≡◌, length, ◌++◌, into_iter_items, HasRows}
use Rattle.mothra_bench.proofs.row_map.RowMap.of.Given as goal

abbrev pub invariant-loop-row : goal.invariant-loop-row
invariant-loop-row l =
    (goal.iterator-loop-row).can_next l.row-iterator
    × (goal.iterator-loop-row).is_finite l.row-iterator
    × (l.fn.rows.items ≡ l.yielded ++ into_iter_items l.row-iterator)
    × (length l.map.rows.items ≡ 22)
    × HasRows l.map l.yielded
