use Rattle.f77_terms.proofs.Common.{arith, rules, SFits, w64, neg_ℤ, ints, clamps, to_z-of_z}
use Rattle.f77_terms.proofs.Orders.{both_turned}
use Rattle.f77_terms.proofs.ranges.limited.Goals as goal

pub returns-then-factor-gt0 : goal.returns-then-factor-gt0
returns-then-factor-gt0 c x inside below =
    let rest : SFits w64 c.args.rest = c.ranges.rest in
    let factor : SFits w64 c.args.factor = c.ranges.factor in
    let low : SFits w64 c.args.range.low = search rules in
    let end : SFits w64 c.args.range.high = search rules in
    let least : SFits w64 c.ceiling.result = search rules in
    let most : SFits w64 c.in_ok-checked_neg.field-0 = search rules in
    let high : SFits w64 c.min-high.result = search rules in
    let up = (simp to_z-of_z at c.ceiling.ensures) x (omega (arith, ints, below)) in
    let turned = c.in_ok-checked_neg.ensures.1 in
    let value = c.min-high.ensures.value in
    record { above = omega (arith, ints, inside.above); below = omega (arith, ints, clamps, up, turned, inside.below, value) }

pub returns : goal.returns
returns c x inside below =
    let rest : SFits w64 c.args.rest = c.ranges.rest in
    let factor : SFits w64 c.args.factor = c.ranges.factor in
    let start : SFits w64 c.args.range.low = search rules in
    let high : SFits w64 c.args.range.high = search rules in
    let fits : SFits w64 c.in_ok-size.size = search rules in
    let least : SFits w64 c.ceiling-2.result = search rules in
    let low : SFits w64 c.max-low.result = search rules in
    let size = simp to_z-of_z at c.in_ok-size.ensures.1 in
    let turned = both_turned c.args.factor x in
    let up = (rw size at (simp to_z-of_z at c.ceiling-2.ensures)) (neg_ℤ x) (omega (arith, ints, turned, below)) in
    let value = c.max-low.ensures.value in
    record { above = omega (arith, ints, clamps, up, inside.above, value); below = omega (arith, ints, inside.below) }
