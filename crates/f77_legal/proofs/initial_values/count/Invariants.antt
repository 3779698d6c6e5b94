use Rattle.f77_legal.proofs.Common.{◌≡◌, length, ◌+◌, drop, ◌≤◌, ◌*◌, kinds_in}
use Rattle.f77_legal.proofs.initial_values.count.Given as goal

-- what is counted, with the other values
abbrev pub invariant-loop-value : goal.invariant-loop-value
invariant-loop-value l = record {
  counted : length (kinds_in l.values) ≡ l.count + length (kinds_in (drop l.value-index l.values));
  bounded : l.count ≤ l.value-index * 4294967295;
}
