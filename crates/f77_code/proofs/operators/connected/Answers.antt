use Rattle.f77_code.proofs.Common.{FitsSigned, w64, rules, to_z-of_z, connected_number}
use Rattle.f77_code.proofs.Connecting.{connected_encodes}
use Rattle.f77_code.proofs.operators.connected.Goals as goal

pub returns : goal.returns
returns c = λ r q a b.
    let fx = c.ranges.x in
    let fy = c.ranges.y in
    let s : FitsSigned w64 c.settled.result = search rules in
    let t : FitsSigned w64 c.joined.result = search rules in
    let is = simp to_z-of_z at c.joined.ensures in
    simp to_z-of_z (c.settled.ensures (connected_number c.args.connective) r q
    (λ m n. simp to_z-of_z (connected_encodes c.args.connective c.args.x c.args.y c.joined.result c.requires.x c.requires.y is
    (simp to_z-of_z at m) (simp to_z-of_z at n)))
    (simp to_z-of_z a) (simp to_z-of_z b))
