use Rattle.f77_symbolic.proofs.Common.{◌∙◌, ap, function_value, sum_value}
use Rattle.f77_symbolic.proofs.evaluator.Evaluator.function_of.Goals as goal

pub returns-clause-made : goal.returns-clause-made
returns-clause-made c start v interprets holds defined =
    let made = c.in_ok-atom.ensures.made start v interprets holds in
    let is = made.1 ∙ ap (λ z. function_value c.args.function z (sum_value v c.in_ok-copy-2.field-0)) (c.in_ok-copy.ensures.value v)
    ∙ ap (function_value c.args.function (sum_value v c.args.a.now)) (c.in_ok-copy-2.ensures.value v) in
    (record { holds = c.in_ok-know_function.ensures v made.0.holds defined is; own = made.0.own }, is)
