-- Programs: labelled statements, each in its place and each one that some text spells.
use Rattle.std.specs.Prelude.{◌≡◌, ℕ, zero, suc, true, List, [], ◌∷◌, Option, Some, None}
use Rattle.std.specs.List.{slice_get}
use Rattle.f77_tree.specs.StatementGrammar.{IsFormed}
use Rattle.f77_tree.specs.Statement.{statement_of, Statement}
use Rattle.f77_program.specs.Group.{group_of, may_stand}
use Rattle.f77_program.specs.declared.group.Group.{Group}
use Rattle.f77_program.specs.declared.group.Group.TheVariants.{End}
use Rattle.f77_program.specs.declared.program.Line.{Line}

-- a statement with its label and the number of its initial line
pub record LineFields : Type 0 where
  pub label : Option ℕ
  pub stmt : Statement
  pub line : ℕ

-- the view of a line
abbrev pub line_of : Line → LineFields
line_of l = record { label = l.label; stmt = statement_of l.stmt; line = l.line }

-- The line may stand behind a statement of this group, or first of all, and some text spells its
-- statement, with names of at most six characters.
abbrev pub MayFollow : Option Group → LineFields → Type 0
MayFollow before line = (may_stand before (group_of line.stmt) ≡ true) × IsFormed line.stmt

-- Rule: a program; the same program
-- the lines are formed statements in order, behind a statement of this group or from the start on,
-- up to the end
pub data IsProgram : Option Group → List LineFields → Type 0 where
  finished : IsProgram (Some End) []
  next : {before : Option Group} {line : LineFields} {lines : List LineFields}
      → MayFollow before line
      → IsProgram (Some (group_of line.stmt)) lines → IsProgram before (line ∷ lines)

-- the line with this number, counted from 1
abbrev pub line_at : List Line → ℕ → Option Line
line_at lines zero = None
line_at lines (suc n) = slice_get lines n
