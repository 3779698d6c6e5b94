use Rattle.f77_terms.proofs.Common.{arith, rules, ints, SFits, w64, to_z-of_z, pos, ◌-ℤ◌, IsBelow, sum_value}
use Rattle.f77_terms.proofs.Orders.{combined_below}
use Rattle.f77_terms.proofs.There.{at_item}
use Rattle.f77_terms.proofs.elimination.add_without.Goals as goal
use Rattle.f77_terms.proofs.elimination.add_without.Goals.{then-below-lt0+then-below+in_ok-sum+in-Some+in_ok-add_tight, then-below-lt0+then-below+in_ok-sum+in_default, else-below-lt0}

pub loop-other-preserved : goal.loop-other-preserved
loop-other-preserved c v before here all =
    let there = at_item (IsBelow v) c.args.bounds.now c.loop-other.other-index c.other-item.result (omega arith) c.other-item.is all in
    let kept = c.loop-other.invariant v before here all in
    elim c.if-below-lt0.branch [
      | then-below-lt0+then-below+in_ok-sum+in-Some+in_ok-add_tight w ↦
          let below : SFits w64 c.factor_of-below.result = search rules in
          let factor : SFits w64 c.factor_of-factor.result = search rules in
          let m = pos 0 -ℤ c.factor_of-below.result in
          let turned : SFits w64 m = search rules in
          let value = simp to_z-of_z at ((rw w.in-Some.is at w.in_ok-sum.ensures) v) in
          let under = simp to_z-of_z at w.if-below-lt0.true in
          let over = simp to_z-of_z at c.if-factor-lt0.false in
          let sign = combined_below m c.factor_of-factor.result (sum_value v c.args.bound.now) (sum_value v c.other-item.result)
          (omega (arith, ints, under)) (omega (arith, ints, over)) here there in
          rw w.left-is (w.in_ok-add_tight.ensures v kept (omega (arith, ints, value, sign)))
      | then-below-lt0+then-below+in_ok-sum+in_default w ↦ rw w.left-is kept
      | else-below-lt0 w ↦ rw w.left-is kept
    ]
