-- What a statement that is not of a form does not have.
use Rattle.f77_tree.proofs.Common.{refl, ◌≡◌, ℕ, ap, true, Vec, ◌≢◌, Global, Statement, statement_of, stmt_step, has_labels, Stmt, ComputedGoto, Expr}
use Rattle.f77_tree.specs.declared.statement.Stmt.TheFolds.{fold_out-Stmt}
use Rattle.f77_tree.specs.declared.statement.Stmt.TheViews as boxed

pub has_its_labels : (s : Stmt) → ((labels : Vec ℕ Global) (value : Expr) → s ≢ ComputedGoto labels value) → has_labels (statement_of s) ≡ true
unfolding boxed.out-Stmt denote.Hole.Carrier.out
has_its_labels (ComputedGoto labels value) other = absurd (other labels value refl)
has_its_labels s other = ap has_labels (fold_out-Stmt Statement stmt_step s)
