-- What a checked program is: a legal program, with the shapes of its dummy arguments and with what
-- a run of it starts with.
use Rattle.std.specs.Prelude.{◌≡◌, ℕ, List, map, Some, None, if◌then◌else◌}
use Rattle.f77_program.specs.Program.{LineFields, IsProgram, line_of}
use Rattle.f77_program.specs.declared.program.Line.{Line}
use Rattle.f77_check.specs.declared.checked.Shape.{Shape}
use Rattle.f77_legal.specs.Legal.{is_array, IsLegal}
use Rattle.f77_legal.specs.Names.{Symbol, kind_of, bounds_of}
use Rattle.f77_legal.specs.Patches.{IsStock}
use Rattle.f77_legal.specs.InitialValues.{element_count}
use Rattle.f77_check.specs.Resolved.{AreResolved}
use Rattle.f77_check.specs.Slots.{slot_count}
use Rattle.f77_legal.specs.Heading.{dummies}
use Rattle.f77_check.specs.Start.{IsStartOf}
use Rattle.f77_actions.specs.declared.resolved.Resolved.{Resolved}
use Rattle.f77_check.specs.declared.start.Start.{Start}

-- the shape of a name: its kind, and the number of its elements if it is an array
abbrev pub shape_of : List LineFields → Symbol → Shape
shape_of program name =
    record {
      kind = kind_of program name;
      elements = if is_array program name
          then Some (element_count program name) else None;
    }

-- the shapes of the dummy arguments, in order
abbrev pub shapes : List LineFields → List Shape
shapes program = map (shape_of program) (dummies program)

-- What a checked program has: the program, the shapes of its dummy arguments, the names that have
-- slots in their order, the number of slots, the resolved statements, and what a run starts with.
pub record CheckedFields : Type 0 where
  pub program : List Line
  pub arguments : List Shape
  pub names : List Symbol
  pub slots : ℕ
  pub statements : List Resolved
  pub start : Start

-- the program is legal, and all else is what belongs to it
pub record IsChecked (checked : CheckedFields) : Type 0 where
  pub formed : IsProgram None (map line_of checked.program)
  pub legal : IsLegal (map line_of checked.program)
  pub arguments : checked.arguments ≡ shapes (map line_of checked.program)
  pub names : IsStock checked.names (map line_of checked.program)
  pub slots : checked.slots ≡ slot_count (bounds_of (map line_of checked.program)) checked.names
  pub statements : AreResolved (map line_of checked.program) checked.names checked.statements
  pub start : IsStartOf (map line_of checked.program) checked.names checked.start
