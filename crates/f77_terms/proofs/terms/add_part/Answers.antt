use Rattle.f77_terms.proofs.Common.{arith, rules, ◌≡◌, SFits, w64, ap, ◌∙◌, ◌*ℤ◌, pos, ints, to_z-of_z, zero-*ℤ, parts_value}
use Rattle.f77_terms.proofs.Values.{parts_put, factor_more}
use Rattle.f77_terms.proofs.terms.add_part.Goals as goal

pub returns-in_ok-insert : goal.returns-in_ok-insert
returns-in_ok-insert c done v =
    let m : SFits w64 c.args.m = c.ranges.m in
    let part : SFits w64 c.args.part.factor = search rules in
    let old : SFits w64 c.taken_out-before.result = search rules in
    let factor : SFits w64 c.in-Some.factor = search rules in
    let atom = c.args.part.atom in
    let before = c.taken_out-before.ensures.value v in
    let more = factor_more c.in-Some.factor c.taken_out-before.result c.args.m c.args.part.factor (v atom) (simp to_z-of_z at c.in-Some.ensures) in
    let put = ap (parts_value v) (simp to_z-of_z at c.in_ok-insert.ensures.items)
    ∙ parts_put v c.taken_out-before.new.parts.items c.place_of-place.result (record { factor = c.in-Some.factor; atom = atom }) in
    omega (arith, ints, before, more, put)

pub returns-else-factor-ne0 : goal.returns-else-factor-ne0
returns-else-factor-ne0 c done v =
    let m : SFits w64 c.args.m = c.ranges.m in
    let part : SFits w64 c.args.part.factor = search rules in
    let old : SFits w64 c.taken_out-before.result = search rules in
    let factor : SFits w64 c.in-Some.factor = search rules in
    let none : c.in-Some.factor ≡ pos 0 = omega (arith, ints) in
    let before = c.taken_out-before.ensures.value v in
    let more = factor_more c.in-Some.factor c.taken_out-before.result c.args.m c.args.part.factor (v c.args.part.atom) (simp to_z-of_z at c.in-Some.ensures) in
    let nothing = ap (λ z. z *ℤ v c.args.part.atom) none ∙ zero-*ℤ (v c.args.part.atom) in
    omega (arith, ints, before, more, nothing)
