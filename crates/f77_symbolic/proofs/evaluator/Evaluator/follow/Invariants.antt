use Rattle.f77_symbolic.proofs.Common.{◌≤◌, ℕ, All, CheckedFields, Valuation, Interprets, Start, Extends, IsReady, IsSettled}
use Rattle.f77_symbolic.proofs.evaluator.Evaluator.follow.Given as goal

-- where the pairs that are left are settled, so are those at the start
abbrev pub invariant-loop-todo : goal.invariant-loop-todo
invariant-loop-todo l = record {
  extends : Extends l.initial.self.atoms l.self.atoms;
  leads : (spare : ℕ) (checked : CheckedFields) (start : Start) (v : Valuation) → IsReady checked l.change → Interprets l.self.atoms start v
      → l.behind ≤ spare → All (IsSettled spare checked l.change start v) l.todo.items
      → All (IsSettled spare checked l.change start v) l.initial.todo.items;
}

abbrev pub decreases-loop-todo : goal.decreases-loop-todo
decreases-loop-todo l = l.work.left
