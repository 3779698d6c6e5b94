use Rattle.f77_code.proofs.Common.{FitsSigned, w64, rules, to_z-of_z, related_number}
use Rattle.f77_code.specs.Evaluation as meaning
use Rattle.f77_code.proofs.Connecting.{truth_encodes}
use Rattle.f77_code.proofs.operators.compared.Goals as goal

pub returns : goal.returns
returns c = λ r q a b.
    let fx = c.ranges.x in
    let fy = c.ranges.y in
    let s : FitsSigned w64 c.settled.result = search rules in
    let t : FitsSigned w64 c.truth.result = search rules in
    let is = c.truth.ensures in
    let holds = simp to_z-of_z at c.holds.ensures in
    simp to_z-of_z (c.settled.ensures (related_number c.args.relation) r q
    (λ m n. simp to_z-of_z (truth_encodes (meaning.compared c.args.relation c.args.x c.args.y) c.holds.result c.truth.result is holds))
    (simp to_z-of_z a) (simp to_z-of_z b))
