use Rattle.f77_run.proofs.Common.{values_in, shown_cells}
use Rattle.f77_run.proofs.Entered.{AreSame}
use Rattle.f77_run.proofs.entering.have_argument.Given as goal

abbrev pub invariant-loop-place : goal.invariant-loop-place
invariant-loop-place l = AreSame (values_in l.argument) (shown_cells l.kinds l.registers) l.first l.place
