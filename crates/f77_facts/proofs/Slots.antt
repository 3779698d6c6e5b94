-- What slots hold that suit their facts, a slot at a time.
use Rattle.f77_facts.proofs.Common.{arith, ◌≡◌, ◌≢◌, ◌⊎◌, ℕ, zero, suc, List, [], ◌∷◌, length, Option, Some, refl, sym, ap, subst, ◌∙◌, inl, inr, slice_get, slice_set}
use Rattle.f77_facts.proofs.Common.{◌<◌, Bool, true, false, MatchBool, get_or, slice_get_within, held_in, Cells, SuitsFact, Implies, AreIn, Lies}
use Rattle.std.proofs.lemmas.Bool.{cases_eq}
use Rattle.std.proofs.lemmas.List.{length-set}
use Rattle.std.proofs.lemmas.Option.{get_or_from_slice_get}
use Rattle.std.proofs.lemmas.Slice.Zip.{get_or-zip, length-zip}
use Rattle.std.specs.List.{AllWithin, zip}
use Rattle.f77_actions.specs.declared.value.Value.{Value}
use Rattle.f77_code.proofs.Listed.{item_at, set_here, set_there}
use Rattle.f77_code.proofs.Written.{at_other, at_same}
use Rattle.f77_facts.specs.declared.facts.Fact.{Fact}

-- a slot's fact is set, and so is what it holds
pub set_both : (facts : List Fact) (cells : Cells) (k : ℕ) (fact : Fact) (cell : Option Value) → AreIn facts cells → SuitsFact fact cell
    → AreIn (slice_set facts k fact) (slice_set cells k cell)
set_both facts cells k fact cell inside suits = record {
  count = length-set cells k cell ∙ inside.count ∙ sym (length-set facts k fact);
  each = λ j other e. by j other (cases_eq j k) e;
}
  where
    by : (j : ℕ) (other : Fact) → (j ≡ k) ⊎ (j ≢ k) → slice_get (slice_set facts k fact) j ≡ Some other → SuitsFact other (held_in (slice_set cells k cell) j)
    by j other (inl same) e =
        let at : slice_get (slice_set facts k fact) k ≡ Some other = subst (λ i. slice_get (slice_set facts k fact) i ≡ Some other) same e in
        let below : k < length cells = omega (arith, slice_get_within (slice_set facts k fact) k other at, length-set facts k fact, inside.count) in
        rw (same, at_same cells k cell below) (subst (λ f. SuitsFact f cell) (set_here facts k fact other at) suits)
    by j other (inr differ) e =
        rw (at_other cells k j cell differ) (inside.each j other (sym (set_there facts k j fact (λ same. differ (sym same))) ∙ e))

-- what a slot holds is put into it
same_put : (cells : Cells) (k : ℕ) → slice_set cells k (held_in cells k) ≡ cells
same_put [] k = refl
same_put (cell ∷ cells) zero = refl
same_put (cell ∷ cells) (suc k) = ap (λ rest. cell ∷ rest) (same_put cells k)

-- a slot's fact is set, and what it holds suits it
pub set_one : (facts : List Fact) (cells : Cells) (k : ℕ) (fact : Fact) → AreIn facts cells → SuitsFact fact (held_in cells k) → AreIn (slice_set facts k fact) cells
set_one facts cells k fact inside suits = subst (AreIn (slice_set facts k fact)) (same_put cells k) (set_both facts cells k fact (held_in cells k) inside suits)

-- each fact is within the one of the same slot
pub all_inside : (No : Type 0) (inner outer : List Fact) (r : Bool) → length inner ≡ length outer
    → MatchBool r (AllWithin (λ (pair : Fact × Fact). Implies pair.0 pair.1) (zip inner outer) 0 (length (zip inner outer))) No → r ≡ true → Lies inner outer
all_inside No inner outer false same within e cells inside = absurd (cc (e))
all_inside No inner outer true same within e cells inside = record { count = inside.count ∙ same; each = each }
  where
    each : (k : ℕ) (fact : Fact) → slice_get outer k ≡ Some fact → SuitsFact fact (held_in cells k)
    each k fact at =
        let below : k < length outer = slice_get_within outer k fact at in
        let own = item_at inner k (omega (arith, below, same)) in
        let pair : get_or (zip inner outer) k (own.0, fact) ≡ (own.0, fact)
        = get_or-zip inner outer k (own.0, fact) (omega (arith, below, same)) below
        ∙ (λ i. (get_or_from_slice_get inner k own.0 own.0 own.1 i, get_or_from_slice_get outer k fact fact at i)) in
        subst (λ (p : Fact × Fact). Implies p.0 p.1) pair (within k (own.0, fact) (omega arith) (omega (arith, length-zip inner outer, below, same)))
        (held_in cells k) (inside.each k own.0 own.1)
