use Rattle.f77_terms.proofs.Common.{arith, SFits, w64, ints, to_z-of_z}
use Rattle.f77_terms.proofs.terms.combined.Goals as goal

pub returns : goal.returns
returns c v =
    let m : SFits w64 c.args.m = c.ranges.m in
    let n : SFits w64 c.args.n = c.ranges.n in
    let start = c.constant_term-term.ensures v in
    let first = simp to_z-of_z at (c.in_ok-add_multiple.ensures c.if-not-branch.false v) in
    let second = simp to_z-of_z at (c.in_ok-add_multiple-2.ensures c.if-not-branch-2.false v) in
    omega (arith, ints, start, first, second)
