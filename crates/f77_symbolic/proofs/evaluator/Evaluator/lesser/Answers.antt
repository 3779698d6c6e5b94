use Rattle.f77_symbolic.proofs.Common.{◌∙◌, sum_value}
use Rattle.f77_symbolic.proofs.Numbers.{least_min}
use Rattle.f77_symbolic.proofs.evaluator.Evaluator.lesser.Goals as goal

pub returns-clause-calculates : goal.returns-clause-calculates
returns-clause-calculates c start v interprets holds =
    let made = c.in_ok-minimum.ensures.made start v interprets holds tt in
    (made.0, c.in_ok-atom_term.ensures v ∙ least_min (sum_value v c.args.a.now) (sum_value v c.args.b.now) (v c.in_ok-minimum.minimum) made.1)
