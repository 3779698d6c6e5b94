use Rattle.f77_terms.proofs.Common.{arith, rules, SFits, w64, ap, ◌*ℤ◌, ints, to_z-of_z, *ℤ-zero, pos, parts_value}
use Rattle.f77_terms.proofs.Products.{sum_times}
use Rattle.f77_terms.proofs.Values.{all_parts, times_more}
use Rattle.f77_terms.proofs.terms.add_multiple.Goals as goal

pub loop-part-init : goal.loop-part-init
loop-part-init c v =
    let m : SFits w64 c.args.m = c.ranges.m in
    let addend : SFits w64 c.args.addend.now.constant = search rules in
    let constant : SFits w64 c.in-Some.constant = search rules in
    let old : SFits w64 c.args.term.now.constant = search rules in
    let sum = simp to_z-of_z at c.in-Some.ensures in
    let none = *ℤ-zero c.args.m in
    simp to_z-of_z (omega (arith, ints, sum, none))

pub loop-part-preserved : goal.loop-part-preserved
loop-part-preserved c v =
    let m : SFits w64 c.args.m = c.ranges.m in
    let within = rw c.deref-part-items.ensures.value at c.loop-part-test.true in
    let more = times_more v c.args.addend.now.parts.items c.loop-part.part-index (record { factor = pos 0; atom = 0 }) c.args.m within in
    let before = simp to_z-of_z at (c.loop-part.invariant v) in
    let added = simp to_z-of_z at ((rw c.deref-part-items.ensures.value at c.in_ok-add_part.ensures) c.if-not-branch.false v) in
    simp to_z-of_z (omega (arith, ints, more, before, added))

pub returns : goal.returns
returns c e v =
    let m : SFits w64 c.args.m = c.ranges.m in
    let before = simp to_z-of_z at (c.loop-part.invariant v) in
    let test = c.loop-part-test.false in
    let all = ap (λ z. c.args.m *ℤ z) (all_parts v c.args.addend.now.parts.items c.loop-part.part-index (rw c.deref-part-items.ensures.value at test)) in
    let whole = sum_times c.args.m c.args.addend.now.constant (parts_value v c.args.addend.now.parts.items) in
    omega (arith, ints, before, all, whole)
