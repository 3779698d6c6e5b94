-- The run of a changed program beside the run of the program. Statements are numbered from 0 here.
-- Private functions and proofs alone cite what stands here.
use Rattle.std.specs.Prelude.{◌≡◌, ◌++◌, ℕ, List, Some, IfSome, drop, length, ℤ}
use Rattle.f77_check.specs.Checked.{CheckedFields}
use Rattle.f77_actions.specs.declared.resolved.Resolved.{Resolved}
use Rattle.f77_code.specs.declared.code.Code.{Code}
use Rattle.f77_code.specs.declared.noting.Passed.{Passed}
use Rattle.f77_code.specs.Follow.{HasSizes, IsPassed}
use Rattle.f77_code.specs.Operation.{Point}
use Rattle.f77_code.specs.Together.{AgreeButAt}
use Rattle.f77_meaning.specs.declared.argument.Arg.{Arg}
use Rattle.f77_run.specs.declared.changed.Change.{Change}
use Rattle.f77_run.specs.declared.registers.Registers.{Registers}
use Rattle.f77_run.specs.Changed.{changed_fields, changed_program}
use Rattle.f77_run.specs.Registers.{IsImage}
use Rattle.f77_run.specs.Visits.{IsAtStart}
use Rattle.f77_run.specs.code.Ends.{RunOf}
use Rattle.f77_run.specs.code.Runs.{HasCode}

-- The run of a changed program, the number of the changed statement, the limit on steps, and the first visit of that
-- statement in the run of the program.
pub record Divergence : Type 0 where
  pub run : RunOf
  pub place : ℕ
  pub steps : ℕ
  pub passed : Passed

-- the run of the program with this change
abbrev pub divergence_of : CheckedFields → Change → List Arg → ℕ → Passed → Divergence
divergence_of checked change arguments steps passed = record {
  run = record {
    checked = checked;
    program = changed_program (changed_fields checked (Some change));
    arguments = arguments;
  };
  place = change.place;
  steps = steps;
  passed = passed;
}

-- The code is that of the changed program; it is also that of the program, apart from one instruction and from
-- constants at the end. And `passed` is what the run of the program has for the changed statement.
pub record IsDivergence (divergence : Divergence) (checked : CheckedFields) (code : Code)
    (image : Registers) : Type 0 where
  pub checked_is : divergence.run.checked ≡ checked
  pub statements : List Resolved
  pub compiled : HasCode divergence.run statements code
  pub begins : IsImage checked code.constants.values.items image
  pub own : Code
  pub start : Point
  pub starts : IsAtStart checked divergence.run.arguments own start
  pub extra : List ℤ
  pub constants : code.constants.values.items ≡ own.constants.values.items ++ extra
  pub agree : AgreeButAt divergence.place own.instructions.items code.instructions.items
  pub passed_is : IsPassed own.instructions.items start (drop checked.slots start.registers)
      divergence.steps divergence.place divergence.passed
  pub sizes : IfSome divergence.passed.first (HasSizes checked.slots (length start.turns))
