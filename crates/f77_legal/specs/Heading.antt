-- The dummy arguments of a program (ANSI X3.9-1978, 15.6).
use Rattle.std.specs.Prelude.{List, []}
use Rattle.std.specs.Option.{option_map_or}
use Rattle.f77_program.specs.Program.{LineFields}
use Rattle.f77_tree.specs.Statement.{Statement}
use Rattle.f77_legal.specs.Labels.{nth_statement}
use Rattle.f77_legal.specs.Names.{Symbol}

-- the dummy arguments of a SUBROUTINE statement; other statements have none
abbrev pub dummies_of : Statement → List Symbol
dummies_of (Statement.Subroutine name names) = names
dummies_of _ = []

-- Rule: names, kinds, bounds; C2, C3 (4.1.2, 8.1, 8.4)
-- the dummy arguments, in order
abbrev pub dummies : List LineFields → List Symbol
dummies program = option_map_or dummies_of (nth_statement program 0) []
