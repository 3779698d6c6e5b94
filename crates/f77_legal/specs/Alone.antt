-- When a changed program can be judged by the changed statement alone.
use Rattle.std.specs.Prelude.{◌≡◌, ℕ, true, List, Some}
use Rattle.std.specs.List.{list_all, slice_get}
use Rattle.f77_program.specs.Program.{LineFields}
use Rattle.f77_tree.specs.Statement.{Statement}
use Rattle.f77_legal.specs.Frames.{framed}
use Rattle.f77_legal.specs.Labels.{is_terminal}
use Rattle.f77_legal.specs.Loops.{terminal}
use Rattle.f77_legal.specs.Names.{Symbol, uses_of, name_in}
use Rattle.f77_legal.specs.Patches.{is_name_among}

-- if a DO ends at statement i, the new statement may be a terminal statement
abbrev pub MayStandAt : List LineFields → ℕ → Statement → Type 0
MayStandAt program i statement =
    (d : ℕ) → terminal program d ≡ Some i → is_terminal statement ≡ true

-- each name of the statement is among these
abbrev pub NamesAmong : List Symbol → Statement → Type 0
NamesAmong names statement =
    list_all (λ name_use. is_name_among names (name_in name_use)) (uses_of statement) ≡ true

-- The change of statement i can be judged by the new statement alone: the frame stays, the new
-- statement may end the DOs that end there, and its names are among these.
pub record StandsAlone (names : List Symbol) (program : List LineFields) (i : ℕ)
    (statement : Statement) : Type 0 where
  pub line : LineFields
  pub at : slice_get program i ≡ Some line
  pub frame : framed statement ≡ framed line.stmt
  pub ends : MayStandAt program i statement
  pub among : NamesAmong names statement
