-- When the changed statement alone decides what the changed program is.
-- Private functions and proofs alone cite what stands here.
use Rattle.std.specs.Prelude.{◌≡◌, ℕ, List, Some, slice_get}
use Rattle.f77_program.specs.Program.{LineFields}
use Rattle.f77_program.specs.Patching.{replaced}
use Rattle.f77_tree.specs.Statement.{Statement}
use Rattle.f77_legal.specs.Legal.{IsLegal}
use Rattle.f77_legal.specs.Names.{Symbol}
use Rattle.f77_legal.specs.Frames.{framed}
use Rattle.f77_legal.specs.Alone.{MayStandAt, StandsAlone}

-- the frame stays if statement i is changed to this one, and this one may end the DOs that end there
pub record FrameStays (program : List LineFields) (i : ℕ) (statement : Statement) : Type 0 where
  pub line : LineFields
  pub at : slice_get program i ≡ Some line
  pub frame : framed statement ≡ framed line.stmt
  pub ends : MayStandAt program i statement

-- the other program is legal, and differs from this one in statement i alone, by which it is judged
pub record IsChangedAlone (names : List Symbol) (program : List LineFields) (i : ℕ)
    (other : List LineFields) : Type 0 where
  pub statement : Statement
  pub alone : StandsAlone names program i statement
  pub changed : other ≡ replaced program i statement
  pub legal : IsLegal other
