-- Copies of the statements of a program, into which nodes are put.
use Rattle.std.specs.Prelude.{ℕ, ◌-◌, List, map, slice_set}
use Rattle.std.specs.Option.{option_map_or}
use Rattle.f77_program.specs.Program.{LineFields}
use Rattle.f77_tree.specs.Node.{NodeOf}
use Rattle.f77_tree.specs.Sites.{changed}
use Rattle.f77_tree.specs.Statement.{Statement, statement_of}
use Rattle.mothra_ops.specs.Edits.{numbered}
use Rattle.mothra_ops.specs.declared.copies.Copies.{Copies}

-- the statements that the copies are
abbrev pub copied : Copies → List Statement
copied copies = map statement_of copies.stmts.items

abbrev pub statements_in : List LineFields → List Statement
statements_in program = map (λ line. line.stmt) program

-- the statements, with another node at this position of the one of this number
abbrev pub changed_at : List Statement → ℕ → ℕ → NodeOf → List Statement
changed_at statements number position node =
    option_map_or (λ s. slice_set statements (number - 1) (changed s position node))
    (numbered statements number) statements
