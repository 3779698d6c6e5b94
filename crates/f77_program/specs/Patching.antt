-- A program with one statement changed.
use Rattle.std.specs.Prelude.{◌≡◌, ℕ, zero, suc, ◌-◌, ◌≤◌, List, [], ◌∷◌, Some}
use Rattle.std.specs.List.{slice_get}
use Rattle.f77_program.specs.Group.{group_of}
use Rattle.f77_program.specs.Program.{LineFields}
use Rattle.f77_tree.specs.StatementGrammar.{IsFormed}
use Rattle.f77_tree.specs.Statement.{Statement}

-- the lines with another statement in line i, counted from 0; its label and its line number stay
abbrev pub replaced : List LineFields → ℕ → Statement → List LineFields
replaced [] i statement = []
replaced (line ∷ lines) zero statement = record (line) { stmt = statement } ∷ lines
replaced (line ∷ lines) (suc i) statement = line ∷ replaced lines i statement

-- the program with another statement in the place of the one with this number, counted from 1
abbrev pub patched : List LineFields → ℕ → Statement → List LineFields
patched program number statement = replaced program (number - 1) statement

-- The statement may be put there: the number, from 1, is that of a statement of the same group, and
-- some text spells the new one, with names of at most six characters.
pub record Fits (program : List LineFields) (number : ℕ) (statement : Statement) : Type 0 where
  pub line : LineFields
  pub counted : 1 ≤ number
  pub at : slice_get program (number - 1) ≡ Some line
  pub formed : IsFormed statement
  pub group : group_of statement ≡ group_of line.stmt
