use Rattle.mothra_app.proofs.Common.{◌≡◌, ◌≤◌, ◌+◌, ◌*◌, asked_total}
use Rattle.mothra_app.proofs.ListedLines.{count_behind}
use Rattle.mothra_app.proofs.listing.total_of.Given as goal

-- what is counted and the mutants of the other operators are all mutants
abbrev pub invariant-loop-op : goal.invariant-loop-op
invariant-loop-op l = record {
  total : l.total + count_behind l.plan l.op-index ≡ asked_total l.plan;
  below : l.total ≤ 4294967295 * l.op-index;
}
