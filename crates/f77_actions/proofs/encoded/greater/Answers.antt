use Rattle.f77_actions.proofs.Common.{FitsSigned, w64, rules, Ok, if◌then◌else◌, to_z-of_z, is_below}
use Rattle.f77_actions.proofs.Operations.{encodes_chosen}
use Rattle.f77_actions.proofs.encoded.greater.Goals as goal

pub returns : goal.returns
returns c = λ r q a b.
    let fx = c.ranges.x in
    let fy = c.ranges.y in
    let s : FitsSigned w64 c.settled.result = search rules in
    let t : FitsSigned w64 c.greatest.result = search rules in
    let is = simp to_z-of_z at c.greatest.ensures in
    simp to_z-of_z (c.settled.ensures (λ a b. Ok (if is_below a b then b else a)) r q
    (λ m n. simp to_z-of_z (encodes_chosen (is_below c.args.x c.args.y) c.args.x c.args.y c.greatest.result c.requires.x c.requires.y is (simp to_z-of_z at m) (simp to_z-of_z at n)))
    (simp to_z-of_z a) (simp to_z-of_z b))
