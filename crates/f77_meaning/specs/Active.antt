-- Which DOs are active in a run (ANSI X3.9-1978, 11.10).
use Rattle.std.specs.Prelude.{◌≡◌, ℕ, ◌==◌, ◌||◌, Bool, is_some, List, None}
use Rattle.f77_program.specs.Program.{LineFields, IsProgram}
use Rattle.f77_legal.specs.Legal.{IsLegal}
use Rattle.f77_legal.specs.Loops.{range_holds}
use Rattle.f77_meaning.specs.Control.{Comes}
use Rattle.f77_meaning.specs.Step.{Config, Place, Execute, Increment}
use Rattle.f77_actions.specs.declared.value.Value.{Value}

-- The DO d is active at this place: its range holds the statement that is to be executed; or it is
-- the DO that is to be incremented, or its range holds that one.
abbrev pub is_active_at : List LineFields → Place → ℕ → Bool
is_active_at p (Execute i) d = range_holds p d i
is_active_at p (Increment e) d = e == d || range_holds p d e

-- the active DOs are those that are active at the place of control
abbrev pub AreActive : List LineFields → Config → Type 0
AreActive p c = (d : ℕ) → is_some (c.active d) ≡ is_active_at p c.place d

-- this holds of each configuration that a run of a legal program comes to
abbrev pub ActiveByPlace : Type 0
ActiveByPlace = (p : List LineFields) (given : List (List Value)) (c : Config)
    → IsProgram None p → IsLegal p → Comes p given c → AreActive p c
