use Rattle.f77_terms.proofs.Common.{arith, rules, SFits, w64, pos, get_or, ints, to_z-of_z, Part}
use Rattle.f77_terms.proofs.Values.{parts_more}
use Rattle.f77_terms.proofs.ranges.parts_range.Goals as goal

pub loop-part-preserved : goal.loop-part-preserved
loop-part-preserved c v inside =
    let none : Part = record { factor = pos 0; atom = 0 } in
    let part = get_or c.args.parts.now c.loop-part.part-index none in
    let number : SFits w64 c.args.number = c.ranges.number in
    let factor : SFits w64 part.factor = search rules in
    let first : SFits w64 c.in_ok-range.range.low = search rules in
    let last : SFits w64 c.in_ok-range.range.high = search rules in
    let low : SFits w64 c.in_ok-low.low = search rules in
    let high : SFits w64 c.in_ok-high.high = search rules in
    let more = parts_more v c.args.parts.now c.loop-part.part-index none c.loop-part-test.true in
    let here = simp to_z-of_z at (c.in_ok-range.ensures (v part.atom) (c.in_ok-atom_range.ensures.within v inside)) in
    let before = simp to_z-of_z at (c.loop-part.invariant v inside) in
    let least = simp to_z-of_z at c.in_ok-low.ensures.1 in
    let most = simp to_z-of_z at c.in_ok-high.ensures.1 in
    simp to_z-of_z (record { above = omega (arith, ints, before.above, here.above, least, more); below = omega (arith, ints, before.below, here.below, most, more) })
