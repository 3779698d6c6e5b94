-- When the changed statement alone decides what the changed program is.
use Rattle.std.specs.Prelude.{◌-◌, ℕ, map, None, slice_set}
use Rattle.f77_program.specs.Program.{IsProgram, line_of}
use Rattle.f77_program.specs.Patching.{patched}
use Rattle.f77_tree.specs.Statement.{Statement}
use Rattle.f77_legal.specs.Frames.{HaveOneFrame}
use Rattle.f77_check.specs.Checked.{CheckedFields}
use Rattle.f77_check.specs.Resolved.{AreResolved}
use Rattle.f77_actions.specs.declared.resolved.Resolved.{Resolved}

-- The program with another statement in the place of the one with this number, from 1, has the same
-- frame. Its resolved statements are those of the checked program, apart from that statement, whose
-- resolved form is `new`.
pub record IsInPlace (checked : CheckedFields) (number : ℕ) (statement : Statement)
    (new : Resolved) : Type 0 where
  pub formed : IsProgram None (patched (map line_of checked.program) number statement)
  pub frame : HaveOneFrame (map line_of checked.program)
      (patched (map line_of checked.program) number statement)
  pub resolved : AreResolved (patched (map line_of checked.program) number statement) checked.names
      (slice_set checked.statements (number - 1) new)
