-- What is read from a program that was printed.
use Rattle.std.specs.Prelude.{◌≡◌, ◌≤◌, ℕ, true, List, None}
use Rattle.f77_source.specs.Card.{CardFields}
use Rattle.f77_source.specs.Law.{squeezed}
use Rattle.f77_source.specs.Read.{AreCards, lines}
use Rattle.f77_tree.specs.StatementGrammar.{IsUnmutated}
use Rattle.f77_tree.specs.Statement.{Statement}
use Rattle.f77_tree.specs.Limits.{most_nodes, statement_constants, statement_nodes}
use Rattle.f77_program.specs.Canonical.{statement_text}
use Rattle.f77_program.specs.Printing.{AreEqualUnnumbered}
use Rattle.f77_program.specs.Program.{LineFields}
use Rattle.f77_syntax.specs.Parsing.{AreLines}
use Rattle.f77_syntax.specs.TextLimits.{IsTooDeep}

-- Rule: what is printed reads back
-- the statement is of a program that is no mutant, and keeps the limits on depth, constants and
-- nodes
pub record KeepsLimits (s : Statement) : Type 0 where
  pub unmutated : IsUnmutated s
  pub flat : ¬ (IsTooDeep (squeezed (statement_text s)))
  pub constants : statement_constants s ≡ true
  pub nodes : statement_nodes s ≤ most_nodes

-- Rule: what is printed reads back
-- the source is read as the same program, apart from line numbers
pub record ReadsBack (source : List ℕ) (program : List LineFields) : Type 0 where
  pub cards : List CardFields
  pub are_cards : AreCards 1 (lines source) cards
  pub found : List LineFields
  pub are_lines : AreLines None cards found
  pub equal : AreEqualUnnumbered found program
