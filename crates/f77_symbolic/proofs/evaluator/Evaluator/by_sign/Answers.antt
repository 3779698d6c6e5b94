use Rattle.f77_symbolic.proofs.Common.{◌∙◌, sum_value}
use Rattle.f77_symbolic.proofs.Steps.{sign_chosen}
use Rattle.f77_symbolic.proofs.evaluator.Evaluator.by_sign.Goals as goal

pub returns-then-branch : goal.returns-then-branch
returns-then-branch c v holds = sign_chosen (sum_value v c.args.number.now) c.args.negative.now c.args.zero.now c.args.positive.now ∙ (rw (c.in_ok-is_nothing.ensures v holds, c.if-branch.true))

pub returns-then-branch-2 : goal.returns-then-branch-2
returns-then-branch-2 c v holds =
    sign_chosen (sum_value v c.args.number.now) c.args.negative.now c.args.zero.now c.args.positive.now
    ∙ (rw (c.in_ok-is_nothing.ensures v holds, c.if-branch.false, c.in_ok-is_negative.ensures v holds, c.if-branch-2.true))

pub returns : goal.returns
returns c v holds =
    sign_chosen (sum_value v c.args.number.now) c.args.negative.now c.args.zero.now c.args.positive.now
    ∙ (rw (c.in_ok-is_nothing.ensures v holds, c.if-branch.false, c.in_ok-is_negative.ensures v holds, c.if-branch-2.false))
