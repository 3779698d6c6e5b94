use Rattle.f77_terms.proofs.Common.{arith, rules, ◌≡◌, ◌<◌, length, SFits, w64, refl, sym, ap, ◌∙◌, ◌*ℤ◌, ints, to_z-of_z, slice_get_read, Part, parts_value}
use Rattle.f77_terms.proofs.Values.{parts_removed}
use Rattle.f77_terms.proofs.terms.taken_out.Goals as goal

pub returns-then-item_at-atom-clause-value : goal.returns-then-item_at-atom-clause-value
returns-then-item_at-atom-clause-value c v =
    let parts = c.args.parts.now.items in
    let part = c.remove.result in
    let factor : SFits w64 c.remove.result.factor = search rules in
    let within : c.args.place < length c.args.parts.now.items = omega arith in
    let at = slice_get_read parts (length parts) c.args.place part refl within c.remove.ensures.value in
    let same : c.item_at.result.now ≡ c.remove.result = cc (at, rw c.deref.ensures.value at c.item_at.ensures) in
    let tested : c.item_at.result.now.atom ≡ c.args.atom = search rules in
    let whole = parts_removed v parts c.args.place part within c.remove.ensures.value in
    let value = ap (λ k. part.factor *ℤ v k) (sym (ap (λ (p : Part). p.atom) same) ∙ tested) in
    let items = ap (parts_value v) c.remove.ensures.items in
    simp to_z-of_z (omega (arith, ints, whole, value, items))
