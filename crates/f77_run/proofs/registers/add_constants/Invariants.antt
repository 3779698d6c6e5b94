use Rattle.f77_run.proofs.Common.{◌≡◌, true, ◌++◌, take, list_all, fits, are_held}
use Rattle.f77_run.proofs.registers.add_constants.Given as goal

-- the constants so far
abbrev pub invariant-loop-constant : goal.invariant-loop-constant
invariant-loop-constant l = record {
  items : l.registers.items ≡ l.initial.registers.items ++ take l.constant-index l.constants;
  held : are_held (take l.constant-index l.constants) ≡ true;
  fitting : list_all fits (take l.constant-index l.constants) ≡ true;
}
