use Rattle.f77_terms.proofs.Common.{arith, rules, SFits, w64, ints}
use Rattle.f77_terms.proofs.ranges.leave_out.Goals as goal

pub returns-then-number-lt9223372036854775807 : goal.returns-then-number-lt9223372036854775807
returns-then-number-lt9223372036854775807 c v known apart =
    let number : SFits w64 c.args.number = c.ranges.number in
    let low : SFits w64 c.in-Some.range.low = search rules in
    let high : SFits w64 c.in-Some.range.high = search rules in
    let inside = c.in-Some.ensures.within v known in
    let end = c.if-range-number.true in
    c.set_range.ensures v known (record { above = omega (arith, ints, inside.above, end, apart); below = omega (arith, ints, inside.below) })

pub returns-then-number-gtminus9223372036854775808 : goal.returns-then-number-gtminus9223372036854775808
returns-then-number-gtminus9223372036854775808 c v known apart =
    let number : SFits w64 c.args.number = c.ranges.number in
    let low : SFits w64 c.in-Some.range.low = search rules in
    let high : SFits w64 c.in-Some.range.high = search rules in
    let inside = c.in-Some.ensures.within v known in
    let end = c.if-range-number-2.true in
    c.set_range-then-number-gtminus9223372036854775808.ensures v known (record { above = omega (arith, ints, inside.above); below = omega (arith, ints, inside.below, end, apart) })
