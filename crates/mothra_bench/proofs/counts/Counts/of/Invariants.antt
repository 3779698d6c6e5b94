use Rattle.mothra_bench.proofs.Common.{◌≡◌, take, ◌≤◌, counts}
use Rattle.mothra_bench.proofs.counts.Counts.of.Given as goal

abbrev pub invariant-loop-entry : goal.invariant-loop-entry
invariant-loop-entry l = (l.counts ≡ counts (take l.entry-index l.entries)) × (l.counts.total ≤ l.entry-index)
