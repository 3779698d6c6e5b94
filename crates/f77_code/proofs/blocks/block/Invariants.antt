use Rattle.f77_code.proofs.Common.{◌≡◌, ℕ, length, true, ◌<◌, ◌≤◌, point, code_after, are_held}
use Rattle.f77_code.proofs.blocks.block.Given as goal

abbrev pub invariant-instructions : goal.invariant-instructions
invariant-instructions l = record {
  held : are_held l.registers ≡ true;
  stands : code_after l.code l.made (point l.start l.fn.registers l.fn.turns) ≡ point l.place l.registers l.turns;
  within : l.made ≤ l.steps;
  there : (k : ℕ) → k < l.made → (code_after l.code k (point l.start l.fn.registers l.fn.turns)).place < length l.code;
}
