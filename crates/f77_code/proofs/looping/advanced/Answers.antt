use Rattle.f77_code.proofs.Common.{FitsSigned, w64, rules, to_z-of_z}
use Rattle.f77_code.proofs.Incremented.{next_encodes}
use Rattle.f77_code.proofs.looping.advanced.Goals as goal

pub returns : goal.returns
returns c = λ r a.
    let fv = c.ranges.value in
    let narrow = c.ranges.step in
    let fs : FitsSigned w64 c.from.result = search rules in
    let fx : FitsSigned w64 c.sum.result = search rules in
    let from = simp to_z-of_z at c.from.ensures in
    simp to_z-of_z
    (next_encodes c.args.step c.from.result c.args.value c.sum.result narrow from r a (λ r q a b. c.sum.ensures r q (simp to_z-of_z a) (simp to_z-of_z b)))
