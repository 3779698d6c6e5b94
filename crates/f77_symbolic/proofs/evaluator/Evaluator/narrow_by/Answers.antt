use Rattle.f77_symbolic.proofs.Common.{arith, ◌≡◌, ◌∙◌, ◌+◌, ◌-◌, length, Some, ap, subst, sym, pos, ◌≤ℤ◌, ints, slice_get, AreKnown, IsIn}
use Rattle.f77_symbolic.proofs.Bounded.{present_set, value_set}
use Rattle.f77_symbolic.proofs.evaluator.Evaluator.narrow_by.Goals as goal

pub returns-then-number-slots : goal.returns-then-number-slots
returns-then-number-slots c start v fits holds known are =
    let at = rw c.deref-2.ensures.value at c.item_at.ensures in
    let slot = subst (λ key. slice_get c.args.self.now.atoms.table.keys.items c.args.atom ≡ Some key) (sym c.deref-3.ensures ∙ c.in-Slot.is) at in
    let value : v c.args.atom ≡ start.numbers c.in-Slot.number = fits c.args.atom _ slot tt in
    let inside = c.in-Some.ensures.within v (subst (AreKnown v) (sym c.deref.ensures.value) holds.known) in
    rw c.set.ensures
    (value_set c.args.facts.now c.in-Slot.number c.item_at-fact.result.now start c.item_at-fact.ensures known are c.in-Some.range c.common-range.result
    c.common-range.ensures (subst (IsIn c.in-Some.range) value inside))

pub returns : goal.returns
returns c start v fits holds known are =
    let at = rw c.deref-2.ensures.value at c.item_at.ensures in
    let slot = subst (λ key. slice_get c.args.self.now.atoms.table.keys.items c.args.atom ≡ Some key) (sym c.deref-3.ensures ∙ c.in-Slot.is) at in
    let value : v c.args.atom ≡ start.numbers c.in-Slot.number = fits c.args.atom _ slot tt in
    let inside = c.in-Some.ensures.within v (subst (AreKnown v) (sym c.deref.ensures.value) holds.known) in
    let behind = c.in-Slot.number - length c.args.facts.now in
    let same : start.numbers c.in-Slot.number ≡ start.numbers (length c.args.facts.now + behind) = ap start.numbers (omega arith) in
    let one : pos 1 ≤ℤ v c.args.atom = omega (arith, ints, inside.above, c.if-range-lt1.false) in
    rw c.set-2.ensures
    (present_set c.args.facts.now behind c.item_at-fact-2.result.now start c.item_at-fact-2.ensures known are (subst (λ z. pos 1 ≤ℤ z) (value ∙ same) one))
