use Rattle.f77_run.proofs.Common.{◌≡◌, length, values_in}
use Rattle.f77_run.proofs.Entered.{AreBegun}
use Rattle.f77_run.proofs.entering.put_argument.Given as goal

-- what is put, with the other values
abbrev pub invariant-loop-place : goal.invariant-loop-place
invariant-loop-place l = record {
  long : length l.registers ≡ length l.initial.registers;
  begun : AreBegun (values_in l.argument) l.kinds l.first l.initial.registers l.place l.registers;
}
