use Rattle.f77_terms.proofs.Common.{arith, rules, SFits, w64, pos, ints, to_z-of_z, *ℤ-zero, parts_value}
use Rattle.f77_terms.proofs.Products.{sum_times}
use Rattle.f77_terms.proofs.bounds.tightened.Goals as goal

pub returns : goal.returns
returns c v below =
    let g : SFits w64 c.divisor_of-g.result = search rules in
    let constant : SFits w64 c.args.bound.constant = search rules in
    let start = (simp to_z-of_z at c.constant_term-whole.ensures) v in
    let more = simp to_z-of_z at (c.in_ok-add_multiple.ensures c.if-not-branch.false v) in
    let same = c.is_same_term.ensures c.if-not-is_same_term.false v in
    let value = parts_value v c.in_ok-parts.parts.items in
    let parts = sum_times c.divisor_of-g.result (pos 0) value in
    let none = *ℤ-zero c.divisor_of-g.result in
    let rounded = (simp to_z-of_z at c.ceiling.ensures) value (omega (arith, ints, start, more, same, parts, none, below)) in
    omega (arith, ints, rounded)
