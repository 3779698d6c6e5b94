-- Which lines are the same: those whose labels, statements and line numbers are the same.
use Rattle.std.specs.Prelude.{◌==◌, nat_eq, List, Bool, ◌&&◌}
use Rattle.std.specs.Cmp.Lexicographic.{pointwise}
use Rattle.std.specs.Option.{option_eq}
use Rattle.f77_tree.specs.Statement.{same_statement}
use Rattle.f77_program.specs.Program.{LineFields}

-- two lines have the same label or none, the same statement and the same line number
abbrev pub same_line : LineFields → LineFields → Bool
same_line l m =
    option_eq nat_eq l.label m.label && (same_statement l.stmt m.stmt && l.line == m.line)

-- two programs have the same lines
abbrev pub same_lines : List LineFields → List LineFields → Bool
same_lines = pointwise same_line
