use Rattle.f77_check.proofs.Common.{◌≡◌, drop, give_values}
use Rattle.f77_check.proofs.start.give_values.Given as goal

-- the other values are still to be given, to the slots that are left
abbrev pub invariant-loop-value : goal.invariant-loop-value
invariant-loop-value l = give_values l.fn.held l.slots l.values ≡ give_values l.held l.rest (drop l.value-index l.values)
