use Rattle.f77_terms.proofs.Common.{rules, arith, SFits, w64, ints, clamps}
use Rattle.f77_terms.proofs.Values.{ok_then}
use Rattle.f77_terms.proofs.elimination.add_known.Goals as goal

pub returns : goal.returns
returns c =
    let low : SFits w64 c.in-Some.range.low = search rules in
    let high : SFits w64 c.in-Some.range.high = search rules in
    let most : SFits w64 c.max.result = search rules in
    ok_then c.add_bound-2.result c.add_bound-2.ensures
    (λ x claim v known before.
    let between = c.in-Some.ensures.within v known in
    let is = c.in_ok-term.ensures v in
    let value = c.max.ensures.value in
    claim v (c.in_ok-add_bound.ensures v before (omega (arith, ints, between.above, is)))
    (omega (arith, ints, clamps, between.below, is, value)))
