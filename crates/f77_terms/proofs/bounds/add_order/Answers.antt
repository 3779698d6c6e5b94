use Rattle.f77_terms.proofs.Common.{arith, SFits, w64, ints, to_z-of_z}
use Rattle.f77_terms.proofs.Values.{ok_then}
use Rattle.f77_terms.proofs.bounds.add_order.Goals as goal

pub returns-in-Some : goal.returns-in-Some
returns-in-Some c =
    let m : SFits w64 c.args.m = c.ranges.m in
    let constant : SFits w64 c.args.constant = c.ranges.constant in
    ok_then c.add_bound.result c.add_bound.ensures
    (λ x claim v before order.
    let value = simp to_z-of_z at ((rw c.in-Some.is at c.in_ok-both.ensures) v) in
    claim v before (omega (arith, ints, value, order)))
