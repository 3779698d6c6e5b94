use Rattle.f77_symbolic.proofs.Common.{◌∙◌, ok_then, sum_value}
use Rattle.f77_symbolic.proofs.Numbers.{size_is, size_turned}
use Rattle.f77_symbolic.proofs.evaluator.Evaluator.size.Goals as goal

pub returns-then-is_turned-clause-tells : goal.returns-then-is_turned-clause-tells
returns-then-is_turned-clause-tells c =
    ok_then c.greater.result c.greater.ensures.calculates
    (λ size claim start v interprets holds.
    let it = claim start v interprets holds in
    (it.0, it.1 ∙ size_turned (sum_value v c.args.a.now) (sum_value v c.in_ok-negative.negative) (c.in_ok-negative.ensures v)))

pub returns-clause-tells : goal.returns-clause-tells
returns-clause-tells c =
    ok_then c.greater-else-is_turned.result c.greater-else-is_turned.ensures.calculates
    (λ size claim start v interprets holds.
    let it = claim start v interprets holds in
    (it.0, it.1 ∙ size_is (sum_value v c.args.a.now) (sum_value v c.in_ok-negative.negative) (c.in_ok-negative.ensures v)))
