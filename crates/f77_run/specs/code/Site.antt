-- The values of the dummy arguments of a checked program, from its slots.
-- Private functions and proofs alone cite what stands here.
use Rattle.std.specs.Prelude.{◌≡◌, ◌≤◌, true, List, length, map, ℤ}
use Rattle.f77_program.specs.Program.{line_of}
use Rattle.f77_check.specs.Checked.{CheckedFields}
use Rattle.f77_legal.specs.Names.{bounds_of}
use Rattle.f77_check.specs.Slots.{slot_count}
use Rattle.f77_code.specs.Moves.{Cells}
use Rattle.f77_code.specs.Registers.{are_held}
use Rattle.f77_run.specs.code.Registers.{shown_cells}
use Rattle.f77_meaning.specs.code.Typed.{IsTyped}
use Rattle.f77_meaning.specs.Site.{held}

-- the values of the slots of the program, from the registers
abbrev pub shown_by : CheckedFields → List ℤ → Cells
shown_by checked registers = shown_cells checked.start.kinds.items registers

-- there is a register for each slot, each has a value or stands for having none, and each dummy argument has values
pub record HoldDummies (checked : CheckedFields) (registers : List ℤ) : Type 0 where
  pub valid : are_held registers ≡ true
  pub room : length checked.start.kinds.items ≤ length registers
  pub count : length (shown_by checked registers) ≡ slot_count (bounds_of (map line_of checked.program)) checked.names
  pub typed : IsTyped (map line_of checked.program) (held checked (shown_by checked registers))
