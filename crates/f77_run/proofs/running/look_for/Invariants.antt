use Rattle.f77_run.proofs.Common.{◌≡◌, length, true, ◌≤◌, ◌-◌, are_held, stands_at, Leads, within_registers}
use Rattle.f77_run.proofs.running.look_for.Given as goal

abbrev pub invariant-looks : goal.invariant-looks
invariant-looks l = record {
  leads : Leads l.code (stands_at l.start l.fn.registers) l.at.made (stands_at l.at.place l.registers);
  held : are_held l.registers.items.items ≡ true;
  within : within_registers l.code l.registers ≡ true;
  registers : length l.registers.items.items ≡ length l.kept.items.items;
  made : l.at.made ≤ l.steps;
}

abbrev pub decreases-looks : goal.decreases-looks
decreases-looks l = l.steps - l.at.made
