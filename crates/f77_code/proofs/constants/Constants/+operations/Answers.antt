use Rattle.f77_code.proofs.Common.{◌≡◌, ap, sym, arith, subst, true, and_parts, can_compile, condition_within, IsCompiled, IsTesting, IsAssigning}
use Rattle.f77_code.proofs.Common.{IsConditional}
use Rattle.std.proofs.lemmas.Result.{IfOk-weaker}
use Rattle.f77_code.proofs.Depth.{action_depth}
use Rattle.f77_code.proofs.Operations.{number_assigned, truth_assigned, goto_conditional}
use Rattle.f77_code.proofs.constants.Constants.+operations.Goals as goal

pub logical-returns-in-Goto-clause-stands : goal.logical-returns-in-Goto-clause-stands
logical-returns-in-Goto-clause-stands t c =
    let table = c.condition.new.self in
    let term = c.in_ok-term.term in
    let there = c.place_of.result in
    IfOk-weaker c.tested.result (IsTesting there term) (IsConditional table c.args.condition.now c.args.action.now)
    (λ operation goes. goto_conditional table c.args.condition.now c.args.action.now c.in-Goto.jump term there operation c.in-Goto.is c.place_of.ensures
    c.in_ok-term.ensures.tests goes)
    c.tested.ensures

pub logical-operation-requires : goal.logical-operation-requires
logical-operation-requires t c = (
  omega (arith, c.decreases),
  subst (λ n. can_compile n c.args.action.now ≡ true) (sym c.in_ok-term.ensures.grown.slots) c.requires.action,
)

pub operation-logical-requires : goal.operation-logical-requires
operation-logical-requires t c =
    let deep = ap action_depth c.in-LogicalIf.is in
    let same = ap action_depth c.deref-in-LogicalIf.ensures in
    let within = rw c.in-LogicalIf.is at c.requires in
    let slots = c.args.self.now.slots in
    let parts = and_parts (condition_within slots c.in-LogicalIf.condition) (can_compile slots c.in-LogicalIf.action.value) within in
    (omega (arith, c.decreases, deep, same), (parts.0, rw c.deref-in-LogicalIf.ensures parts.1))

pub operation-returns-in_ok-term-in-AssignNumber-clause-stands : goal.operation-returns-in_ok-term-in-AssignNumber-clause-stands
operation-returns-in_ok-term-in-AssignNumber-clause-stands t c =
    let earlier = c.number.new.self in
    let later = c.assignment.new.self in
    let act = c.args.action.now in
    let target = c.in-AssignNumber.target in
    let term = c.in_ok-term-in-AssignNumber.term in
    IfOk-weaker c.assignment.result (IsAssigning later target term) (IsCompiled later act)
    (λ operation assigns. number_assigned earlier later act target c.in-AssignNumber.value term operation c.in-AssignNumber.is
    c.in_ok-term-in-AssignNumber.ensures.stands c.assignment.ensures.grown assigns)
    c.assignment.ensures.assigns

pub operation-returns-in_ok-term-in-AssignTruth-clause-stands : goal.operation-returns-in_ok-term-in-AssignTruth-clause-stands
operation-returns-in_ok-term-in-AssignTruth-clause-stands t c =
    let earlier = c.condition.new.self in
    let later = c.assignment-in-AssignTruth.new.self in
    let act = c.args.action.now in
    let target = c.in-AssignTruth.target in
    let term = c.in_ok-term-in-AssignTruth.term in
    IfOk-weaker c.assignment-in-AssignTruth.result (IsAssigning later target term) (IsCompiled later act)
    (λ operation assigns. truth_assigned earlier later act target c.in-AssignTruth.value term operation c.in-AssignTruth.is
    c.in_ok-term-in-AssignTruth.ensures.tests c.assignment-in-AssignTruth.ensures.grown assigns)
    c.assignment-in-AssignTruth.ensures.assigns
