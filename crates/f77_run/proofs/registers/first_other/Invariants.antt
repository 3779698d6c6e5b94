use Rattle.f77_run.proofs.Common.{SameBelow}
use Rattle.f77_run.proofs.registers.first_other.Given as goal

abbrev pub invariant-places : goal.invariant-places
invariant-places l = SameBelow l.items l.others l.place
