use Rattle.f77_run.proofs.Common.{◌≡◌, length, drop, zip, HaveRoom}
use Rattle.f77_run.proofs.Entered.{ArePassed}
use Rattle.f77_run.proofs.entering.put_arguments.Given as goal

-- what is put, with the other arguments
abbrev pub invariant-loop-first : goal.invariant-loop-first
invariant-loop-first l = record {
  long : length l.registers ≡ length l.initial.registers;
  room : HaveRoom (length l.kinds) (zip (drop (length l.yielded) l.dummies) (drop (length l.yielded) l.arguments));
  begun : ArePassed l.dummies l.arguments l.kinds l.initial.registers (length l.yielded) l.registers;
}
