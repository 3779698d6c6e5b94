use Rattle.f77_symbolic.proofs.Common.{◌≡◌, Bool, List, subst, Resolved, Cells, moved, Valuation, Path, Side, Step, AreInside, state_of, Stepped}
use Rattle.f77_symbolic.proofs.Settling.{side_same}
use Rattle.f77_symbolic.proofs.Steps.{stepped_void}
use Rattle.f77_symbolic.proofs.evaluator.Evaluator.step_from.Goals as goal

from_same : (start : Cells) (v : Valuation) (own : Bool) (path : Path) (side other after : Side) (made : Step) (statements : List Resolved) → side ≡ other
    → (AreInside v side.writes.items → Stepped start v own path side after made (moved statements (state_of start v side)))
    → AreInside v other.writes.items → Stepped start v own path other after made (moved statements (state_of start v other))
from_same start v own path side other after made statements same =
    subst (λ s. AreInside v s.writes.items → Stepped start v own path s after made (moved statements (state_of start v s))) same

pub returns-then-is_ruled_out-clause-steps : goal.returns-then-is_ruled_out-clause-steps
returns-then-is_ruled_out-clause-steps c start v there holds inside =
    let path = c.step.new.self.path in
    let made = c.in_ok-step.step in
    stepped_void start.cells v c.args.own path c.args.side.now c.step.new.side made (moved c.args.statements.now (state_of start.cells v c.args.side.now))
    (c.is_ruled_out.ensures c.if-is_ruled_out.true v)
    (from_same start.cells v c.args.own path c.in_ok-after.after c.args.side.now c.step.new.side made c.args.statements.now (side_same c.in_ok-after.ensures.cases)
    (c.in_ok-step.ensures.steps start v there (c.in_ok-come_on.ensures.path v holds)) inside)

pub returns-clause-steps : goal.returns-clause-steps
returns-clause-steps c start v there holds inside =
    from_same start.cells v c.args.own c.step.new.self.path c.in_ok-after.after c.args.side.now c.step.new.side c.in_ok-step.step c.args.statements.now (side_same c.in_ok-after.ensures.cases)
    (c.in_ok-step.ensures.steps start v there (c.in_ok-come_on.ensures.path v holds)) inside
