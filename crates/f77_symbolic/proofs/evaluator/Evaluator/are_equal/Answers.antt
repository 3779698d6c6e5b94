use Rattle.f77_symbolic.proofs.Common.{arith, ints}
use Rattle.f77_symbolic.proofs.evaluator.Evaluator.are_equal.Goals as goal

pub returns : goal.returns
returns c shown v holds =
    let between = c.in_ok-combination.ensures v in
    let nothing = c.in_ok-is_zero.ensures shown v holds in
    omega (arith, ints, between, nothing)
