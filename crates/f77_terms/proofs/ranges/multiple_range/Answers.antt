use Rattle.f77_terms.proofs.Common.{arith, rules, SFits, w64, pos, ◌≤ℤ◌, ints, to_z-of_z}
use Rattle.f77_terms.proofs.Orders.{rising, falling}
use Rattle.f77_terms.proofs.ranges.multiple_range.Goals as goal
use Rattle.f77_terms.proofs.ranges.multiple_range.Goals.{then-m-lt0, else-m-lt0}

pub returns : goal.returns
returns c x inside =
    let m : SFits w64 c.args.m = c.ranges.m in
    let l : SFits w64 c.args.range.low = search rules in
    let h : SFits w64 c.args.range.high = search rules in
    let low : SFits w64 c.in_ok-low.low = search rules in
    let high : SFits w64 c.in_ok-high.high = search rules in
    let least = simp to_z-of_z at c.in_ok-low.ensures.1 in
    let most = simp to_z-of_z at c.in_ok-high.ensures.1 in
    elim c.if-m-lt0.branch [
      | then-m-lt0 w ↦
          let test = w.if-m-lt0.true in
          let below : c.args.m ≤ℤ pos 0 = omega (arith, ints, test) in
          let first = falling c.args.m c.args.range.low x below inside.above in
          let second = falling c.args.m x c.args.range.high below inside.below in
          rw w.low-is (simp to_z-of_z (record { above = omega (arith, ints, second, most); below = omega (arith, ints, first, least) }))
      | else-m-lt0 w ↦
          let test = w.if-m-lt0.false in
          let above : pos 0 ≤ℤ c.args.m = omega (arith, ints, test) in
          let first = rising c.args.m c.args.range.low x above inside.above in
          let second = rising c.args.m x c.args.range.high above inside.below in
          rw w.low-is (simp to_z-of_z (record { above = omega (arith, ints, first, least); below = omega (arith, ints, second, most) }))
    ]
