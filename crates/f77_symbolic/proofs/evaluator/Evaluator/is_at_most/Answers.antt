use Rattle.f77_symbolic.proofs.Common.{arith, ints}
use Rattle.f77_symbolic.proofs.Expecting.{at_most_zero}
use Rattle.f77_symbolic.proofs.evaluator.Evaluator.is_at_most.Goals as goal

pub returns : goal.returns
returns c shown v holds =
    let between = c.in_ok-combination.ensures v in
    let below = at_most_zero _ (c.in_ok-never_has.ensures shown v holds) in
    omega (arith, ints, between, below)
