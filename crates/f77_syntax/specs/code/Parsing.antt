-- Which cards are which program, and why cards are none.
-- Private functions and proofs alone cite what stands here.
use Rattle.std.specs.Prelude.{◌≡◌, ℕ, ◌<◌, true, false}
use Rattle.f77_tree.specs.Statement.{Statement}
use Rattle.f77_tree.specs.Limits.{most_nodes, statement_constants, statement_nodes}
use Rattle.f77_program.specs.declared.fault.SyntaxFault.{SyntaxFault}
use Rattle.f77_program.specs.declared.fault.SyntaxFault.TheVariants.{Memory, BadConstant, TooLong}

-- the statement is outside the limits on its nodes, or memory ran out before that was known
pub data IsOutside (line : ℕ) (s : Statement) : SyntaxFault → Type 0 where
  memory : IsOutside line s Memory
  constant : statement_constants s ≡ false → IsOutside line s (BadConstant line)
  nodes : statement_constants s ≡ true → most_nodes < statement_nodes s → IsOutside line s (TooLong line)
