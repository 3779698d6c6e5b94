use Rattle.f77_check.proofs.Common.{◌≡◌, drop, give_run}
use Rattle.f77_check.proofs.start.give_run.Given as goal

-- the other slots are still to be given
abbrev pub invariant-loop-slot : goal.invariant-loop-slot
invariant-loop-slot l = give_run l.constant l.fn.held l.slots ≡ give_run l.constant l.held (drop l.slot-index l.slots)
