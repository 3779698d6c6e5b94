use Rattle.f77_actions.proofs.Common.{FitsSigned, w64, rules, to_z-of_z}
use Rattle.f77_actions.proofs.Faults.{left_none, right_none, on_values}
use Rattle.f77_actions.proofs.Bounds.{at_least, not_least}
use Rattle.f77_actions.proofs.encoded.settled.Goals as goal

pub returns-then-x-ge-UNDEFINED : goal.returns-then-x-ge-UNDEFINED
returns-then-x-ge-UNDEFINED c = λ f r q t a b.
    let fx = c.ranges.x in
    let fy = c.ranges.y in
    let u : FitsSigned w64 c.unfit.result = search rules in
    simp to_z-of_z (left_none f c.unfit.result c.args.x c.args.y (at_least c.args.x fx c.if-x-ge-UNDEFINED.true) r q a b (c.unfit.ensures r q (simp to_z-of_z a) (simp to_z-of_z b)))

pub returns-then-y-ge-UNDEFINED : goal.returns-then-y-ge-UNDEFINED
returns-then-y-ge-UNDEFINED c = λ f r q t a b.
    let fx = c.ranges.x in
    let fy = c.ranges.y in
    let u : FitsSigned w64 c.unfit-then-y-ge-UNDEFINED.result = search rules in
    simp to_z-of_z
    (right_none f c.unfit-then-y-ge-UNDEFINED.result c.args.x c.args.y (at_least c.args.y fy c.if-y-ge-UNDEFINED.true) r q a b
    (c.unfit-then-y-ge-UNDEFINED.ensures r q (simp to_z-of_z a) (simp to_z-of_z b)))

pub returns : goal.returns
returns c = λ f r q t a b.
    let fx = c.ranges.x in
    let fy = c.ranges.y in
    let fz = c.ranges.z in
    let hx = not_least c.args.x fx c.if-x-ge-UNDEFINED.false in
    let hy = not_least c.args.y fy c.if-y-ge-UNDEFINED.false in
    simp to_z-of_z (on_values f c.args.z c.args.x c.args.y hx hy (t hx hy) r q a b)
