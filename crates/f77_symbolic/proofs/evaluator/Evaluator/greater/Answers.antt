use Rattle.f77_symbolic.proofs.Common.{ok_then, sum_value}
use Rattle.f77_symbolic.proofs.Numbers.{greatest_turned}
use Rattle.f77_symbolic.proofs.evaluator.Evaluator.greater.Goals as goal

pub returns-clause-calculates : goal.returns-clause-calculates
returns-clause-calculates c =
    ok_then c.plus-3.result c.plus-3.ensures
    (λ value is start v interprets holds.
    let least = c.in_ok-least.ensures.calculates start v interprets holds in (
      least.0,
      greatest_turned (sum_value v c.args.a.now) (sum_value v c.args.b.now) (sum_value v c.in_ok-first.first) (sum_value v c.in_ok-second.second)
          (sum_value v c.in_ok-least.least) (sum_value v value) (c.in_ok-first.ensures v) (c.in_ok-second.ensures v) least.1 (is v),
    ))
