use Rattle.f77_symbolic.proofs.Common.{Some, ap, sym, subst, ℤ, ◌≡◌, ◌≢◌, ◌∙◌, pos, slice_set, number_in, begun, Cells, TurnList, Move, passing_at, passes_left, ok_then, sum_value, cells_of}
use Rattle.f77_symbolic.proofs.Common.{turns_of, Stepped}
use Rattle.f77_actions.specs.declared.value.Value.TheVariants as held
use Rattle.f77_symbolic.specs.declared.sides.Step.TheVariants as step
use Rattle.std.proofs.lemmas.Bool.Decides.{not_from_Decides}
use Rattle.f77_symbolic.proofs.Extending.{extends_same}
use Rattle.f77_symbolic.proofs.Numbers.{same_decides}
use Rattle.f77_symbolic.proofs.Steps.{begun_some, begun_steps}
use Rattle.f77_symbolic.proofs.Turned.{trips_left}
use Rattle.f77_symbolic.proofs.evaluator.Evaluator.begin.Goals as goal

pub returns-then-branch-clause-steps : goal.returns-then-branch-clause-steps
returns-then-branch-clause-steps c r =
    let three = c.number_of-3.new.self in
    let from : ℤ → ℤ → ℤ → Cells → TurnList → Move = begun c.args.statements.now c.args.d c.in-Loop.variable c.in-Loop.terminal in
    rw c.in-Loop.is
    (begun_steps c.args.self.now c.number_of.new.self c.number_of-2.new.self three three c.args.side.now c.args.side.now step.Faults
    (λ cells. number_in cells c.in-Loop.first) (λ cells. number_in cells c.in-Loop.last) (λ cells. number_in cells c.in-Loop.step)
    c.in_ok-first.first c.in_ok-last.last c.in_ok-step.step from
    c.in_ok-last.ensures.extends c.in_ok-step.ensures.extends (extends_same three.atoms)
    (rw (c.deref-2.ensures.value, c.deref.ensures) at c.in_ok-first.ensures.yields)
    (rw (c.deref-4.ensures.value, c.deref-3.ensures) at c.in_ok-last.ensures.yields)
    (rw (c.deref-6.ensures.value, c.deref-5.ensures) at c.in_ok-step.ensures.yields)
    (λ start v there holds inside.
    rw ((same_decides (sum_value v c.in_ok-step.step) (pos 0)).0 (c.in_ok-is_nothing.ensures v holds ∙ c.if-branch.true)) c.in_ok-unless_unknown.ensures))

pub returns-clause-steps : goal.returns-clause-steps
returns-clause-steps c =
    ok_then c.advance.result c.advance.ensures
    (λ found claim r.
    let three = c.number_of-3.new.self in
    let new = c.divided.new.self in
    let from : ℤ → ℤ → ℤ → Cells → TurnList → Move = begun c.args.statements.now c.args.d c.in-Loop.variable c.in-Loop.terminal in
    rw c.in-Loop.is
    (begun_steps c.args.self.now c.number_of.new.self c.number_of-2.new.self three new c.args.side.now c.advance.new.side found
    (λ cells. number_in cells c.in-Loop.first) (λ cells. number_in cells c.in-Loop.last) (λ cells. number_in cells c.in-Loop.step)
    c.in_ok-first.first c.in_ok-last.last c.in_ok-step.step from
    c.in_ok-last.ensures.extends c.in_ok-step.ensures.extends c.in_ok-passes.ensures.extends
    (rw (c.deref-2.ensures.value, c.deref.ensures) at c.in_ok-first.ensures.yields)
    (rw (c.deref-4.ensures.value, c.deref-3.ensures) at c.in_ok-last.ensures.yields)
    (rw (c.deref-6.ensures.value, c.deref-5.ensures) at c.in_ok-step.ensures.yields)
    (λ start v there holds inside.
    let first = sum_value v c.in_ok-first.first in
    let last = sum_value v c.in_ok-last.last in
    let step = sum_value v c.in_ok-step.step in
    let cells = cells_of start.cells v c.args.side.now.writes.items in
    let turns = turns_of v c.args.side.now.turns.items in
    let apart : step ≢ pos 0 = not_from_Decides _ (same_decides step (pos 0)) (c.in_ok-is_nothing.ensures v holds ∙ c.if-branch.false) in
    let divides = c.in_ok-passes.ensures.divides start v there holds apart in
    let trips = trips_left first last step (sum_value v c.in_ok-distance.distance) (sum_value v c.in_ok-dividend.dividend)
    (sum_value v c.in_ok-passes.passes) (c.in_ok-distance.ensures v) (c.in_ok-dividend.ensures v) divides.1.quotient in
    let begins : from first last step cells turns ≡ passing_at c.args.statements.now c.in-Loop.terminal c.args.d (passes_left (sum_value v c.in_ok-passes.passes))
    step (slice_set cells c.in-Loop.variable (Some (held.Number first))) turns =
    begun_some c.args.statements.now c.args.d c.in-Loop.variable c.in-Loop.terminal first last step cells turns apart
    ∙ ap (λ n. passing_at c.args.statements.now c.in-Loop.terminal c.args.d n step (slice_set cells c.in-Loop.variable (Some (held.Number first))) turns) trips in
    subst (λ own. Stepped start.cells v own new.path c.args.side.now c.advance.new.side found (Some (from first last step cells turns))) divides.0.own
    (subst (λ m. Stepped start.cells v new.own new.path c.args.side.now c.advance.new.side found (Some m)) (sym begins)
    (claim start v there divides.0.holds inside)))))
