use Rattle.mothra_equivalents.proofs.Common.{List, length, All, AllPairs, ◌≢◌, ◌≤◌, AreFitting, Arg}
use Rattle.mothra_equivalents.proofs.unproved.rows_of.Given as goal

abbrev pub invariant-loop-row : goal.invariant-loop-row
invariant-loop-row l = record {
  fit : All (AreFitting l.checked.arguments) l.killing.items;
  differ : AllPairs (λ (test other : List Arg). test ≢ other) l.killing.items;
  few : length l.killing.items ≤ l.most;
}
