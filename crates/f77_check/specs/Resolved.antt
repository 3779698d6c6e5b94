-- The resolved form of a program: resolved statement i is statement i with its names and labels
-- looked up. Statements are numbered from 0 here.
use Rattle.std.specs.Prelude.{◌≡◌, ℕ, List, length, Some, slice_get}
use Rattle.f77_program.specs.Program.{LineFields}
use Rattle.f77_tree.specs.Statement.{Statement}
use Rattle.f77_actions.specs.declared.resolved.Resolved.{Resolved}
use Rattle.f77_check.specs.Action.{IsAction}
use Rattle.f77_legal.specs.Blocks.{statement_behind}
use Rattle.f77_legal.specs.Labels.{nth_statement}
use Rattle.f77_legal.specs.Loops.{loops_ending}
use Rattle.f77_legal.specs.Names.{Symbol, kind_of, bounds_of}

-- the resolved form of statement i: its action, the statement behind, and the DOs that end at it
pub record IsResolved (program : List LineFields) (names : List Symbol) (i : ℕ)
    (statement : Statement) (resolved : Resolved) : Type 0 where
  pub action : IsAction (kind_of program) (bounds_of program) names program i
      statement resolved.action
  pub next : statement_behind program i ≡ Some resolved.next
  pub ends : resolved.ends.items ≡ loops_ending program i

-- these are the resolved statements, in order, where names have slots in the order of this list
pub record AreResolved (program : List LineFields) (names : List Symbol)
    (list : List Resolved) : Type 0 where
  pub count : length list ≡ length program
  pub each : (i : ℕ) (statement : Statement) (resolved : Resolved)
      → nth_statement program i ≡ Some statement → slice_get list i ≡ Some resolved
      → IsResolved program names i statement resolved
