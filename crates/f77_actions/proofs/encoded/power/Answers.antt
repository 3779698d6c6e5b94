use Rattle.f77_actions.proofs.Common.{FitsSigned, w64, rules, w32, to_z-of_z}
use Rattle.f77_actions.specs.Number as exact
use Rattle.f77_actions.proofs.Operations.{narrowed}
use Rattle.f77_actions.proofs.encoded.power.Goals as goal

pub returns : goal.returns
returns c = λ r q a b.
    let fx = c.ranges.x in
    let fy = c.ranges.y in
    let s : FitsSigned w64 c.settled.result = search rules in
    let t : FitsSigned w64 c.coded.result = search rules in
    let left : FitsSigned w32 c.narrow.result = search rules in
    let right : FitsSigned w32 c.narrow-2.result = search rules in
    let coded = c.coded.ensures in
    let is = simp to_z-of_z at c.power.ensures in
    let first = simp to_z-of_z at c.narrow.ensures in
    let second = simp to_z-of_z at c.narrow-2.ensures in
    simp to_z-of_z (c.settled.ensures exact.power r q
    (λ m n. simp to_z-of_z (narrowed exact.power c.coded.result c.args.x c.args.y c.narrow.result c.narrow-2.result c.power.result coded is first second
    (simp to_z-of_z at m) (simp to_z-of_z at n)))
    (simp to_z-of_z a) (simp to_z-of_z b))
