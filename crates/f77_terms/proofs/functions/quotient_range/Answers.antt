use Rattle.f77_terms.proofs.Common.{arith, rules, w64, SFits, ints, to_z-of_z, negsuc, ◌*ℤ◌, int_div}
use Rattle.f77_terms.proofs.Division.{either, quot_away, quot_between, quot_toward}
use Rattle.f77_terms.proofs.functions.quotient_range.Goals as goal

pub returns-then-divisor-ge0 : goal.returns-then-divisor-ge0
returns-then-divisor-ge0 c x y first second apart =
    let low : SFits w64 c.args.divisor.low = search rules in
    let is = simp to_z-of_z at c.if-divisor-ge0.true in
    c.range_from_zero.ensures x (int_div x y) first (quot_toward x y (omega (arith, ints, is, second.above)))

pub returns-then-divisor-le0 : goal.returns-then-divisor-le0
returns-then-divisor-le0 c x y first second apart =
    let high : SFits w64 c.args.divisor.high = search rules in
    let is = simp to_z-of_z at c.if-divisor-le0.true in
    c.range_from_zero-then-divisor-le0.ensures (negsuc 0 *ℤ x) (int_div x y) (c.in_ok-negative.ensures x first)
    (quot_away x y apart (omega (arith, ints, is, second.below)))

pub returns : goal.returns
returns c x y first second apart =
    either (c.range_from_zero-2.ensures x (int_div x y) (c.hull.ensures.first x first))
    (c.range_from_zero-2.ensures (negsuc 0 *ℤ x) (int_div x y) (c.hull.ensures.second (negsuc 0 *ℤ x) (c.in_ok-negative.ensures x first)))
    (quot_between x y apart)
