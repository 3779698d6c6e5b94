use Rattle.f77_code.proofs.Common.{◌≡◌, length, true, ◌+◌, ◌≤◌, drop, point, code_after, are_held, ArePassed, HaveSizes, numbers_kept}
use Rattle.f77_code.proofs.noting.follow.Given as goal

abbrev pub invariant-steps : goal.invariant-steps
invariant-steps l = record {
  held : are_held l.registers ≡ true;
  stands : code_after l.code l.made (point l.start l.fn.registers l.fn.turns) ≡ point l.place l.registers l.turns;
  within : l.made ≤ l.steps;
  passed : ArePassed l.code (point l.start l.fn.registers l.fn.turns) (drop l.slots l.fn.registers) l.made l.list.items;
  kept : HaveSizes l.slots (length l.fn.turns) l.list.items;
  room : l.room + numbers_kept l.list.items ≡ l.fn.room;
  count : length l.list.items ≡ length l.fn.list.items;
}
