-- A checked program with one statement changed. Statements are numbered from 0 here.
use Rattle.std.specs.Prelude.{◌≡◌, ◌<◌, ℕ, List, length, map, Option, None, Some, IfSome, slice_set}
use Rattle.std.specs.Option.{option_map_or}
use Rattle.f77_program.specs.Patching.{replaced}
use Rattle.f77_program.specs.Program.{LineFields, IsProgram, line_of}
use Rattle.f77_tree.specs.Statement.{statement_of}
use Rattle.f77_tree.specs.declared.statement.Stmt.{Stmt}
use Rattle.f77_legal.specs.Frames.{HaveOneFrame}
use Rattle.f77_legal.specs.Legal.{IsLegal}
use Rattle.f77_check.specs.Checked.{CheckedFields, IsChecked}
use Rattle.f77_check.specs.Resolved.{AreResolved}
use Rattle.f77_actions.specs.declared.resolved.Resolved.{Resolved}
use Rattle.f77_code.specs.declared.replacing.ChangedCode.{ChangedCode}
use Rattle.f77_code.specs.Replacing.{IsChangedCode, own_instructions}
use Rattle.f77_code.specs.Program.{IsCode}
use Rattle.f77_code.specs.Together.{AgreeButAt}
use Rattle.f77_run.specs.declared.changed.Change.{Change}
use Rattle.f77_run.specs.declared.registers.Registers.{Registers}
use Rattle.f77_run.specs.Registers.{IsImage}

-- the program, and the number of the changed statement with what stands in its place, if one is
-- changed
pub record ChangedFields : Type 0 where
  pub checked : CheckedFields
  pub place : ℕ
  pub stmt : Option Stmt

-- the view of a program with one statement changed, or with none
abbrev pub changed_fields : CheckedFields → Option Change → ChangedFields
changed_fields checked None = record { checked = checked; place = 0; stmt = None }
changed_fields checked (Some change) =
    record { checked = checked; place = change.place; stmt = Some change.stmt.value }

-- the changed program
abbrev pub changed_program : ChangedFields → List LineFields
changed_program changed =
    let program = map line_of changed.checked.program in
    option_map_or (λ stmt. replaced program changed.place (statement_of stmt)) changed.stmt program

-- The changed program is legal and of the same frame. Its resolved statements are those of the
-- program, apart from the changed one. The code is that of the changed program, with the
-- instruction of the changed statement replaced.
pub record IsChangeMade (changed : ChangedFields) (code : ChangedCode) : Type 0 where
  pub within : changed.place < length changed.checked.program
  pub formed : IsProgram None (changed_program changed)
  pub legal : IsLegal (changed_program changed)
  pub frame : HaveOneFrame (map line_of changed.checked.program) (changed_program changed)
  pub statement : Resolved
  pub resolved : AreResolved (changed_program changed) changed.checked.names
      (slice_set changed.checked.statements changed.place statement)
  pub compiled : IsCode (slice_set changed.checked.statements changed.place statement) code.code
  pub others : AgreeButAt changed.place (own_instructions code) code.code.instructions.items

-- A checked program, its code, and the registers and counters at the start of its runs. Where a
-- statement is changed, the code is that of the changed program.
pub record IsChanged (changed : ChangedFields) (code : ChangedCode)
    (image : Registers) : Type 0 where
  pub checked : IsChecked changed.checked
  pub own : IsChangedCode changed.checked.statements code
  pub slots : code.code.constants.slots ≡ changed.checked.slots
  pub begins : IsImage changed.checked code.code.constants.values.items image
  pub change : IfSome changed.stmt (λ _. IsChangeMade changed code)
