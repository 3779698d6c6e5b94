-- A checked program with one statement changed, and when that
-- one is equivalent. Statements are numbered from 0 here.
use Rattle.std.specs.Prelude.{◌≡◌, ℕ, List, None, map}
use Rattle.f77_program.specs.Program.{LineFields, IsProgram, line_of}
use Rattle.f77_legal.specs.Frames.{HaveOneFrame}
use Rattle.f77_legal.specs.Legal.{IsLegal}
use Rattle.f77_equivalence.specs.Prelude.{CheckedFields, IsChecked, Resolved, Cells, AreSameBut, argument_values}
use Rattle.f77_check.specs.Resolved.{AreResolved}
use Rattle.f77_actions.specs.declared.finish.Finish.{Finish}
use Rattle.f77_actions.specs.declared.finish.Finish.TheVariants.{Returned, Stopped}
use Rattle.f77_meaning.specs.Site.{held}

-- The changed program is legal, of the frame of the other, and the
-- same but for the statement i; these are its statements resolved.
pub record IsChange (checked : CheckedFields) (i : ℕ) (program : List LineFields)
    (changed : List Resolved)
    : Type 0 where
  pub own : IsChecked checked
  pub formed : IsProgram None program
  pub legal : IsLegal program
  pub resolved : AreResolved program checked.names changed
  pub frame : HaveOneFrame (map line_of checked.program) program
  pub others : AreSameBut i (map line_of checked.program) program

-- the run returns or stops
abbrev pub IsEnding : Finish → Type 0
IsEnding Returned = Unit {0}
IsEnding Stopped = Unit {0}
IsEnding _ = ⊥

-- the dummy arguments hold the same
abbrev pub HoldAlike : CheckedFields → Cells → Cells → Type 0
HoldAlike checked cells others =
    argument_values (map line_of checked.program) (held checked others)
    ≡ argument_values (map line_of checked.program) (held checked cells)
