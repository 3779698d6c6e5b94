use Rattle.f77_terms.proofs.Common.{arith, ◌≡◌, ◌∙◌, length, subst, inl, inr, sym, AreKnown}
use Rattle.f77_terms.proofs.There.{written_back}
use Rattle.f77_terms.proofs.Values.{ok_then}
use Rattle.f77_terms.proofs.splitting.+is_refuted_with.Goals as goal

pub returns : goal.returns
returns t c =
    let long : length c.is_impossible.new.ranges ≡ c.in_ok-ranges.ranges.len
    = omega (arith, c.is_impossible.auto.ranges, c.deref_mut.ensures.len, c.in_ok-ranges.ranges.ok) in
    ok_then c.is_refuted_with-2.result c.is_refuted_with-2.ensures
    (λ yes claim e v holds known below.
    let kept = c.is_impossible.ensures.kept v ((rw (sym c.in_ok-ranges.ensures.items, sym c.deref_mut.ensures.value) at known)) below in
    let narrowed : AreKnown v c.deref-5.result.now
    = subst (AreKnown v) (sym (written_back c.is_impossible.new.ranges _ c.in_ok-ranges.ranges.len long) ∙ sym c.deref-5.ensures.value) kept in
    elim ((rw c.in-Some-2.is at c.in_ok-choice.ensures) v holds) [
      | inl first ↦ (rw c.deref-6.ensures.value at c.in_ok-is_refuted_with.ensures) c.if-not-branch.false v holds narrowed
          ((rw c.deref-3.ensures at (rw c.deref-4.ensures.value at c.in_ok-first.ensures)) v below first)
      | inr second ↦ (rw c.deref-10.ensures.value at claim) e v holds (subst (AreKnown v) (c.deref-5.ensures.value ∙ sym c.deref-9.ensures.value) narrowed)
          ((rw c.deref-7.ensures at (rw c.deref-8.ensures.value at c.in_ok-second.ensures)) v below second)
    ])
