use Rattle.f77_symbolic.proofs.Common.{arith, ◌≤ℤ◌, pos, w64, ints, to_z-of_z, ok_then, sum_value, SFits}
use Rattle.f77_symbolic.proofs.Expecting.{at_most_zero, both_expected, expected_as}
use Rattle.f77_symbolic.proofs.evaluator.Evaluator.expect_within.Goals as goal

pub returns-clause-expects : goal.returns-clause-expects
returns-clause-expects c =
    let fits : SFits w64 c.args.low = c.ranges.low in
    let bound = c.from.ensures in
    ok_then c.expect_not-2.result c.expect_not-2.ensures.expects
    (λ x second v holds.
    let t = sum_value v c.args.term.now in
    let low = (simp to_z-of_z at c.in_ok-too_low.ensures) v in
    let high = c.in_ok-too_high.ensures v in
    both_expected v c.args.self.now c.expect_not.new.self c.expect_not-2.new.self (c.args.low ≤ℤ t) (t ≤ℤ pos c.args.high)
    (expected_as v c.args.self.now c.expect_not.new.self _ (c.args.low ≤ℤ t) (λ q over. omega (arith, ints, q, over, low))
    (λ never. let most = at_most_zero _ never in omega (arith, ints, most, low)) (c.in_ok-expect_not.ensures.expects v holds))
    (λ on.
    expected_as v c.expect_not.new.self c.expect_not-2.new.self _ (t ≤ℤ pos c.args.high) (λ q over. omega (arith, ints, q, over, high, bound))
    (λ never. let most = at_most_zero _ never in omega (arith, ints, most, high, bound)) (second v on)))
