use Rattle.f77_terms.proofs.Common.{arith, rules, w64, SFits, ints, clamps}
use Rattle.f77_terms.proofs.functions.minimum_range.Goals as goal

pub returns : goal.returns
returns c x y first second =
    let a : SFits w64 c.args.a.low = search rules in
    let b : SFits w64 c.args.a.high = search rules in
    let d : SFits w64 c.args.b.low = search rules in
    let e : SFits w64 c.args.b.high = search rules in
    let f : SFits w64 c.min.result = search rules in
    let h : SFits w64 c.min-2.result = search rules in
    let low = c.min.ensures.value in
    let high = c.min-2.ensures.value in
    record { above = omega (arith, ints, clamps, low, first.above, second.above); below = omega (arith, ints, clamps, high, first.below, second.below) }
