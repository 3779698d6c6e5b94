use Rattle.f77_symbolic.proofs.Common.{arith, rules, SFits, subst, sym, w64, clamps, ints, to_z-of_z, AreKnown, sum_value}
use Rattle.f77_symbolic.proofs.Bounded.{left_max}
use Rattle.f77_symbolic.proofs.evaluator.Evaluator.passes_of.Goals as goal

pub returns : goal.returns
returns c =
    let low : SFits w64 c.max.result = search rules in
    let high : SFits w64 c.max-2.result = search rules in
    simp to_z-of_z
    (λ v holds.
    let inside = c.in-Some.ensures v (subst (AreKnown v) (sym c.deref.ensures.value) holds.known) in
    let left = left_max (sum_value v c.args.passes.now) in
    record {
      above = omega (arith, ints, clamps, left, inside.above, c.max.ensures.value);
      below = omega (arith, ints, clamps, left, inside.below, c.max-2.ensures.value);
    })
