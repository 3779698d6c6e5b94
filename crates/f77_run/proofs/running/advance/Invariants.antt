use Rattle.f77_run.proofs.Common.{◌≡◌, length, ◌<◌, true, ◌≤◌, ◌-◌, are_held, stands_at, Leads, within_registers}
use Rattle.f77_run.proofs.running.advance.Given as goal

abbrev pub invariant-rounds : goal.invariant-rounds
invariant-rounds l = record {
  leads : Leads l.code (stands_at l.start l.fn.registers) l.at.made (stands_at l.at.place l.registers);
  held : are_held l.registers.items.items ≡ true;
  within : within_registers l.code l.registers ≡ true;
  made : l.at.made ≤ l.steps;
  some : l.at.place < length l.code → l.at.made < l.steps → 0 < l.at.made;
}

abbrev pub decreases-rounds : goal.decreases-rounds
decreases-rounds l = l.steps - l.at.made
