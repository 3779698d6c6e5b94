use Rattle.f77_symbolic.proofs.Common.{Goes, truth_in, acted, go_on, jump_chosen, state, Execute, ok_then, refl}
use Rattle.f77_symbolic.proofs.Steps.{goes_always, yield_goes, yield_steps}
use Rattle.f77_symbolic.proofs.evaluator.Evaluator.+act.Goals as goal

pub returns-then-branch-clause-steps : goal.returns-then-branch-clause-steps
returns-then-branch-clause-steps t c =
    ok_then c.act.result (rw c.deref-then-branch.ensures at c.act.ensures.steps)
    (λ step claim. rw c.in-LogicalIf.is
    (yield_steps c.args.self.now c.truth_of.new.self c.act.new.self c.args.side.now c.act.new.side step (λ cells. truth_in cells c.in-LogicalIf.condition)
    (λ v. c.in_ok-truth_of-in-LogicalIf.field-0)
    (λ v b cells turns.
    jump_chosen b (acted c.args.statements.now c.args.i c.args.resolved.now c.in-LogicalIf.action.value cells turns) (go_on c.args.resolved.now cells turns))
    c.act.ensures.extends (rw (c.deref-in-LogicalIf.ensures.value, c.deref.ensures) at c.in_ok-truth_of-in-LogicalIf.ensures.yields)
    (rw c.if-branch.true claim)))

pub returns-else-branch-clause-steps : goal.returns-else-branch-clause-steps
returns-else-branch-clause-steps t c =
    rw c.in-LogicalIf.is
    (yield_goes c.args.self.now c.truth_of.new.self c.args.side.now c.go_on.new.side c.go_on.result (λ cells. truth_in cells c.in-LogicalIf.condition)
    (λ v. c.in_ok-truth_of-in-LogicalIf.field-0)
    (λ b cells turns.
    jump_chosen b (acted c.args.statements.now c.args.i c.args.resolved.now c.in-LogicalIf.action.value cells turns) (go_on c.args.resolved.now cells turns))
    (go_on c.args.resolved.now) (rw (c.deref-in-LogicalIf.ensures.value, c.deref.ensures) at c.in_ok-truth_of-in-LogicalIf.ensures.yields)
    c.go_on.ensures (λ v holds cells turns. rw c.if-branch.false refl))

pub returns-then-branch-2-clause-steps : goal.returns-then-branch-2-clause-steps
returns-then-branch-2-clause-steps t c =
    rw c.in-Branch.is
    (yield_goes c.args.self.now c.truth_of-in-Branch.new.self c.args.side.now c.go_on-then-branch-2.new.side c.go_on-then-branch-2.result
    (λ cells. truth_in cells c.in-Branch.condition) (λ v. c.in_ok-truth_of-in-Branch.field-0)
    (λ b cells turns. jump_chosen b (go_on c.args.resolved.now cells turns) (Goes (state (Execute c.in-Branch.otherwise) cells turns)))
    (go_on c.args.resolved.now) (rw (c.deref-in-Branch-2.ensures.value, c.deref-in-Branch.ensures) at c.in_ok-truth_of-in-Branch.ensures.yields)
    c.go_on-then-branch-2.ensures (λ v holds cells turns. rw c.if-branch-2.true refl))

pub returns-else-branch-2-clause-steps : goal.returns-else-branch-2-clause-steps
returns-else-branch-2-clause-steps t c =
    rw c.in-Branch.is
    (yield_goes c.args.self.now c.truth_of-in-Branch.new.self c.args.side.now c.come_to.new.side c.come_to.result
    (λ cells. truth_in cells c.in-Branch.condition) (λ v. c.in_ok-truth_of-in-Branch.field-0)
    (λ b cells turns. jump_chosen b (go_on c.args.resolved.now cells turns) (Goes (state (Execute c.in-Branch.otherwise) cells turns)))
    (λ cells turns. Goes (state (Execute c.in-Branch.otherwise) cells turns))
    (rw (c.deref-in-Branch-2.ensures.value, c.deref-in-Branch.ensures) at c.in_ok-truth_of-in-Branch.ensures.yields)
    c.come_to.ensures (λ v holds cells turns. rw c.if-branch-2.false refl))

pub returns-in-AssignNumber-clause-steps : goal.returns-in-AssignNumber-clause-steps
returns-in-AssignNumber-clause-steps t c =
    ok_then c.assign_number.result c.assign_number.ensures.acts (λ step claim. rw c.in-AssignNumber.is (claim c.args.statements.now c.args.i))

pub returns-in-AssignTruth-clause-steps : goal.returns-in-AssignTruth-clause-steps
returns-in-AssignTruth-clause-steps t c =
    ok_then c.assign_truth.result c.assign_truth.ensures.acts (λ step claim. rw c.in-AssignTruth.is (claim c.args.statements.now c.args.i))

pub returns-in-Continue-clause-steps : goal.returns-in-Continue-clause-steps
returns-in-Continue-clause-steps t c =
    rw c.in-Continue.is
    (goes_always c.args.self.now c.args.side.now c.go_on-in-Continue.new.side c.go_on-in-Continue.result (go_on c.args.resolved.now)
    (λ v. go_on c.args.resolved.now) c.go_on-in-Continue.ensures (λ v holds cells turns. refl))
