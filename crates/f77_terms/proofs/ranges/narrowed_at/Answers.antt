use Rattle.f77_terms.proofs.Common.{arith, rules, SFits, w64, ints, to_z-of_z}
use Rattle.f77_terms.proofs.Values.{parts_round}
use Rattle.f77_terms.proofs.ranges.narrowed_at.Goals as goal

pub returns : goal.returns
returns c v known below =
    let first : SFits w64 c.in_ok-before.before.low = search rules in
    let second : SFits w64 c.in_ok-behind.behind.low = search rules in
    let rest : SFits w64 c.in_ok-rest.rest = search rules in
    let constant : SFits w64 c.args.bound.now.constant = search rules in
    let factor : SFits w64 c.item_at-part.result.now.factor = search rules in
    let before = simp to_z-of_z at ((rw c.as_slice-parts.ensures.value at c.in_ok-before.ensures) v known) in
    let behind = (rw c.as_slice-parts.ensures.value at c.in_ok-behind.ensures) v known in
    let whole = simp to_z-of_z at c.in_ok-rest.ensures.1 in
    let round = parts_round v c.args.bound.now.parts.items c.args.place c.item_at-part.result.now (rw c.as_slice-parts.ensures.value at c.item_at-part.ensures) in
    (simp to_z-of_z at c.in_ok-range.ensures) (v c.item_at-part.result.now.atom) (c.in_ok-atom_range.ensures.within v known)
    (omega (arith, ints, before.above, behind.above, whole, round, below))
