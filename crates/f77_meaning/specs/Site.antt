-- The values of the names of a checked program, from those of the slots.
use Rattle.std.specs.Prelude.{map}
use Rattle.f77_program.specs.Program.{line_of}
use Rattle.f77_check.specs.Checked.{CheckedFields}
use Rattle.f77_legal.specs.Names.{bounds_of}
use Rattle.f77_code.specs.Moves.{Cells}
use Rattle.f77_meaning.specs.States.{values_of}
use Rattle.f77_meaning.specs.Value.{Store}

-- the values that the names of the program have in these slots
abbrev pub held : CheckedFields → Cells → Store
held checked cells = values_of (bounds_of (map line_of checked.program)) checked.names cells
