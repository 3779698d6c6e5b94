use Rattle.f77_symbolic.proofs.Common.{arith, ints, Some, ap, subst, ◌≡◌, ◌∙◌, ◌-◌, ℤ, slice_set, ◌+ℤ◌, in_range, option_map, whole, held_in, Move, passing_at, used, ok_then, sum_value}
use Rattle.f77_symbolic.proofs.Common.{Answers, Stepped, cells_of, turn_of, turns_of}
use Rattle.f77_actions.specs.declared.value.Value.TheVariants as held
use Rattle.f77_symbolic.proofs.Answering.{known_steps}
use Rattle.f77_symbolic.proofs.Steps.{whole_read}
use Rattle.f77_symbolic.proofs.Turned.{one_less}
use Rattle.f77_symbolic.proofs.evaluator.Evaluator.increment.Goals as goal

pub returns-clause-steps : goal.returns-clause-steps
returns-clause-steps c =
    ok_then c.advance.result c.advance.ensures
    (λ found claim start v there holds inside.
    let old = c.args.self.now in
    let mid = c.read.new.self in
    let new = c.ranged.new.self in
    let before = c.args.side.now in
    let after = c.advance.new.side in
    let cells = cells_of start.cells v before.writes.items in
    let turns = turns_of v before.turns.items in
    let turn = turn_of v c.in_ok-turn.turn.now in
    let slot = c.in-Loop.variable in
    let value = sum_value v c.in_ok-before.before in
    let here = c.ranged.ensures.extends.back start v there in
    let reads = rw (c.deref-4.ensures.value, c.deref-3.ensures) at c.in_ok-value.ensures.reads in
    let it = rw (c.fixed.ensures.slot v) at (reads start v here holds inside (c.fixed.ensures.inside v)) in
    let read = whole_read v old mid (held_in cells slot) c.in_ok-value.value (λ z. value ≡ z) it
    (λ holds. c.in_ok-before.ensures start v here holds) in
    let sum : sum_value v c.in_ok-next.next ≡ (value +ℤ turn.step) = omega (arith, ints, c.in_ok-next.ensures v) in
    let passes = one_less (sum_value v c.in_ok-turn.turn.now.passes) (sum_value v c.in_ok-passes.passes) (c.in_ok-passes.ensures v) in
    let active = (rw (c.deref-2.ensures.value, c.deref.ensures) at c.turn_at.ensures) v ∙ ap (option_map (λ turn. turn_of v turn.now)) c.in_ok-turn.ensures.ok_part in
    let next : ℤ → Move = λ next.
    passing_at c.args.statements.now c.in-Loop.terminal c.args.d (turn.passes - 1) turn.step (slice_set cells slot (Some (held.Number next))) turns in
    let set = slice_set cells slot (Some (held.Number (sum_value v c.in_ok-number.number))) in
    rw (c.in_ok-variable.ensures, c.in-Loop.is, active)
    (known_steps start.cells v old mid new before after found (whole (held_in cells slot)) cells (λ z. used (in_range (z +ℤ turn.step)) cells next) value read
    (λ holds. known_steps start.cells v mid new new before after found (in_range (value +ℤ turn.step)) cells next (sum_value v c.in_ok-number.number)
    (subst (λ z. Answers v mid new (in_range z) (λ x. sum_value v c.in_ok-number.number ≡ x)) sum (c.in_ok-number.ensures.calculates start v there holds))
    (λ holds. subst (λ m. Stepped start.cells v new.own new.path before after found (Some m))
    (ap (λ n. passing_at c.args.statements.now c.in-Loop.terminal c.args.d n (sum_value v c.in_ok-step.step) set turns) passes
    ∙ ap (λ z. passing_at c.args.statements.now c.in-Loop.terminal c.args.d (turn.passes - 1) z set turns) (c.in_ok-step.ensures.value v))
    (claim start v there holds inside)))))
