use Rattle.f77_tree.proofs.Common.{◌+◌, ◌*◌}
use Rattle.f77_tree.specs.declared.statement.Stmt.TheViews.{size-Stmt}
use Rattle.f77_tree.proofs.swapping.+swap.Given as goal

abbrev pub decreases-swap_statement : goal.decreases-swap_statement
decreases-swap_statement l = 3 * size-Stmt l.stmt.now + 1

abbrev pub decreases-swap_behind : goal.decreases-swap_behind
decreases-swap_behind l = 3 * size-Stmt l.stmt.now

abbrev pub decreases-swap_logical : goal.decreases-swap_logical
decreases-swap_logical l = 3 * size-Stmt l.statement.now.value + 2
