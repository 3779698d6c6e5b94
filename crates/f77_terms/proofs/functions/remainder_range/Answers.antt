use Rattle.f77_terms.proofs.Common.{arith, rules, w64, SFits, ints, clamps, to_z-of_z, pos, ◌-ℤ◌, ◌≤ℤ◌, int_rem}
use Rattle.f77_terms.proofs.Division.{rem_between, rem_toward}
use Rattle.f77_terms.proofs.functions.remainder_range.Goals as goal

pub returns : goal.returns
returns c x y first second apart =
    let high : SFits w64 c.args.divisor.high = search rules in
    let low : SFits w64 c.args.divisor.low = search rules in
    let turned : SFits w64 c.in_ok-checked_neg.field-0 = search rules in
    let greater : SFits w64 c.max.result = search rules in
    let size : SFits w64 c.max-size.result = search rules in
    let above : pos 1 ≤ℤ c.max-size.result = omega (arith, ints, c.max-size.ensures.other_bound) in
    let less : SFits w64 (pos 1 -ℤ c.max-size.result) = search rules in
    let more : SFits w64 (c.max-size.result -ℤ pos 1) = search rules in
    let one = c.max.ensures in
    let other = c.max-size.ensures in
    let neg = c.in_ok-checked_neg.ensures in
    c.common.ensures (int_rem x y)
    (c.range_from_zero.ensures x (int_rem x y) first (rem_toward x y))
    (simp to_z-of_z (rem_between x y c.args.divisor.low c.args.divisor.high c.max-size.result apart second
    (omega (arith, ints, clamps, one.value, other.value)) (omega (arith, ints, clamps, one.value, other.value, neg))))
