use Rattle.f77_symbolic.proofs.Common.{◌≡◌, ◌∙◌, ◌+◌, Some, None, ap, sym, pos, is_below, Goes, go_on, state, Execute, sum_value, slice_set, turn_of}
use Rattle.f77_actions.specs.declared.value.Value.TheVariants as held
use Rattle.f77_symbolic.proofs.Comparisons.{some_so}
use Rattle.f77_symbolic.proofs.Steps.{advanced}
use Rattle.f77_symbolic.proofs.Turned.{passing_none, passing_some}
use Rattle.f77_symbolic.proofs.evaluator.Evaluator.advance.Goals as goal

pub returns-then-branch : goal.returns-then-branch
returns-then-branch c start v there holds inside =
    let here = c.fixed.ensures.inside v in
    advanced start.cells v _ _ c.args.side.now c.write.new.self c.set_turn.new.self c.go_on.new.side c.go_on.result c.args.variable
    (held.Number (sum_value v c.args.number)) c.args.statements.now c.args.terminal c.args.d _ (sum_value v c.args.left.step) None c.in_ok-end.end.now (go_on c.in_ok-end.end.now)
    c.in_ok-end.ensures (rw (c.fixed.ensures.slot v) at (c.in_ok-write.ensures.cells start.cells v inside here)) (c.in_ok-write.ensures.inside v inside here)
    c.in_ok-write.ensures.turns c.in_ok-set_turn.ensures.writes (c.in_ok-set_turn.ensures.turns v)
    (λ cells turns. passing_none c.in_ok-end.end.now c.args.d (sum_value v c.args.left.step) cells turns (sum_value v c.args.left.passes)
    (ap (λ z. is_below z (pos 0)) (sym (c.in_ok-plus.ensures v)) ∙ c.in_ok-is_negative.ensures v holds ∙ c.if-branch.true)) (c.go_on.ensures v) holds

pub returns : goal.returns
returns c start v there holds inside =
    let here = c.fixed.ensures.inside v in
    let next : c.in_ok-ok_or.field-0 ≡ c.args.d + 1 =
    some_so c.checked_add.result _ (c.args.d + 1) c.in_ok-ok_or.field-0 c.checked_add.ensures c.in_ok-ok_or.ensures.ok_part in
    advanced start.cells v _ _ c.args.side.now c.write.new.self c.set_turn-2.new.self c.come_to.new.side c.come_to.result c.args.variable
    (held.Number (sum_value v c.args.number)) c.args.statements.now c.args.terminal c.args.d _ (sum_value v c.args.left.step)
    (Some (turn_of v c.args.left)) c.in_ok-end.end.now (λ cells turns. Goes (state (Execute c.in_ok-ok_or.field-0) cells turns))
    c.in_ok-end.ensures (rw (c.fixed.ensures.slot v) at (c.in_ok-write.ensures.cells start.cells v inside here)) (c.in_ok-write.ensures.inside v inside here)
    c.in_ok-write.ensures.turns c.in_ok-set_turn-2.ensures.writes (rw c.in_ok-new.ensures at (c.in_ok-set_turn-2.ensures.turns v))
    (λ cells turns. passing_some c.in_ok-end.end.now c.args.d (sum_value v c.args.left.step) cells turns (sum_value v c.args.left.passes)
    (ap (λ z. is_below z (pos 0)) (sym (c.in_ok-plus.ensures v)) ∙ c.in_ok-is_negative.ensures v holds ∙ c.if-branch.false)
    ∙ ap (λ n. Goes (state (Execute n) cells (slice_set turns c.args.d (Some (turn_of v c.args.left))))) (sym next)) (c.come_to.ensures v) holds
