use Rattle.f77_code.proofs.Common.{◌≡◌, AreExecuted}
use Rattle.f77_code.proofs.code.executed.Given as goal

abbrev pub invariant-loop-i : goal.invariant-loop-i
invariant-loop-i l = record {
  slots : l.constants.slots ≡ l.initial.constants.slots;
  executed : AreExecuted l.constants l.statements l.i l.list.items;
}
