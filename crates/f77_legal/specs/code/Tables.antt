-- What the tables have of a program.
-- Private functions and proofs alone cite what stands here.
use Rattle.std.specs.Prelude.{ℕ, List, Option}
use Rattle.std.specs.Option.{option_and_then}
use Rattle.f77_tree.specs.Statement.{Statement}
use Rattle.f77_legal.specs.Labels.{label_place, terminal_label}
use Rattle.f77_program.specs.Program.{LineFields}

-- the terminal statement that a DO names
abbrev pub terminal_of : List LineFields → Statement → Option ℕ
terminal_of program statement = option_and_then (label_place program) (terminal_label statement)
