-- What the tables have of a program.
use Rattle.std.specs.Prelude.{◌≡◌, List}
use Rattle.f77_program.specs.Program.{LineFields}
use Rattle.f77_legal.specs.declared.tables.Tables.{Tables}
use Rattle.f77_legal.specs.Names.{kind_of, bounds_of}
use Rattle.f77_legal.specs.NameTable.{IsNameTable, kind_at, array_bounds}
use Rattle.f77_legal.specs.LabelTable.{IsLabelTable}
use Rattle.f77_legal.specs.BlockTable.{IsBlockTable}
use Rattle.f77_legal.specs.LoopTable.{IsRangeTable}

-- the tables are those of the program
pub record AreTables (tables : Tables) (program : List LineFields) : Type 0 where
  pub names : IsNameTable tables.names program
  pub labels : IsLabelTable tables.labels program
  pub blocks : IsBlockTable tables.blocks program
  pub ranges : IsRangeTable tables.ranges program

-- The tables answer what is asked of the statements of a program. The program's own tables do, and
-- so do those of a program with the same frame.
pub record Serve (tables : Tables) (program : List LineFields) : Type 0 where
  pub kinds : kind_at tables.names ≡ kind_of program
  pub bounds : array_bounds tables.names ≡ bounds_of program
  pub labels : IsLabelTable tables.labels program
  pub blocks : IsBlockTable tables.blocks program
  pub ranges : IsRangeTable tables.ranges program
