-- What is answered where it is expected that there is no fault.
use Rattle.f77_symbolic.proofs.Common.{arith, ◌≡◌, ◌≢◌, ◌⊎◌, inl, inr, zero, suc, Bool, true, false, refl, subst, ℤ, pos, negsuc, ◌≤ℤ◌, ◌<ℤ◌}
use Rattle.f77_symbolic.proofs.Common.{if◌then◌else◌, int_div, int_rem, Result, Ok, Err, Option, IfOk, IfSome, result_ok, ints, Fault, fits}
use Rattle.f77_symbolic.proofs.Common.{in_range, quotient, modulus, pushed, Holds, Valuation, Evaluator, Answers, StaysOn}
use Rattle.std.specs.Bool.{Decides}
use Rattle.std.proofs.lemmas.Bool.Decides.{nat_tests}
use Rattle.f77_actions.specs.declared.finish.Fault.TheVariants.{Overflow, DivideByZero, Trapped}
use Rattle.f77_symbolic.proofs.Answering.{own_before, stays_same, stays_then, answers_after}

-- what an option was made to
pub some_told : {A E : Type 0} (P : A → Type 0) (o : Option A) (r : Result A E) → o ≡ result_ok r → IfSome o P → IfOk r P
some_told P o (Ok x) e told = subst (λ o. IfSome o P) e told
some_told P o (Err x) e told = tt

pub at_most_zero : (z : ℤ) → ¬ (pos 0 <ℤ z) → z ≤ℤ pos 0
at_most_zero z never = grind (arith, ints, never)

-- where the claim is true the path goes on, and where it is not the program itself faults
abbrev pub Expected : Valuation → Evaluator → Evaluator → Type 0 → Type 0
Expected v old new P = (P → StaysOn v old new) × ((old.own ≡ true) ⊎ P)

-- it is so
pub expected_so : (v : Valuation) (evaluator : Evaluator) (P : Type 0) → Holds v evaluator.path → P → Expected v evaluator evaluator P
expected_so v evaluator P holds p = ((λ q. stays_same v evaluator holds), inr p)

-- one and then the other
pub both_expected : (v : Valuation) (old mid new : Evaluator) (P Q : Type 0) → Expected v old mid P → (Holds v mid.path → Expected v mid new Q) → Expected v old new (P × Q)
both_expected v old mid new P Q (on, so) next = ((λ both. stays_then v old mid new (on both.0) ((next (on both.0).holds).0 both.1)), by so)
  where
    by : (old.own ≡ true) ⊎ P → (old.own ≡ true) ⊎ (P × Q)
    by (inl own) = inl own
    by (inr p) = elim (next (on p).holds).1 [ inl own ↦ inl (own_before v old mid new (on p) own) | inr q ↦ inr (p, q) ]

-- the same in other words
pub expected_as : (v : Valuation) (old new : Evaluator) (P Q : Type 0) → (Q → P) → (P → Q) → Expected v old new P → Expected v old new Q
expected_as v old new P Q back on first = ((λ q. first.0 (back q)), elim first.1 [ inl own ↦ inl own | inr p ↦ inr (on p) ])

-- where it is not so there is a fault
pub faults : (v : Valuation) (old new : Evaluator) (P : Type 0) → Expected v old new P → ¬ P → old.own ≡ true
faults v old new P expected never = elim expected.1 [ inl own ↦ own | inr p ↦ absurd (never p) ]

-- what a test tells is expected
pub tested_answers : {A : Type 0} (v : Valuation) (old mid new : Evaluator) (b : Bool) (r : Result A Fault) (fault : Fault) (C : A → Type 0) (P : Type 0) → Decides b P
    → Expected v old mid P → (P → Holds v mid.path → Answers v mid new r C) → Answers v old new (if b then r else Err fault) C
tested_answers v old mid new true r fault C P decides expected next =
    let p = decides.0 refl in
    let on = expected.0 p in
    answers_after v old mid new r C on (next p on.holds)
tested_answers v old mid new false r fault C P decides expected next = faults v old mid P expected (λ p. let yes = decides.1 p in absurd (cc (yes)))

-- INTEGER holds the number
abbrev pub IsInteger : ℤ → Type 0
IsInteger z = (negsuc 2147483647 ≤ℤ z) × (z ≤ℤ pos 2147483647)

fits_decides : (z : ℤ) → Decides (fits z) (IsInteger z)
fits_decides (pos n) = grind (arith, ints, nat_tests)
fits_decides (negsuc n) = grind (arith, ints, nat_tests)

-- a number that is expected to be in range
pub ranged_answers : (v : Valuation) (old new : Evaluator) (z : ℤ) → Expected v old new (IsInteger z) → Answers v old new (in_range z) (λ x. z ≡ x)
ranged_answers v old new z expected =
    tested_answers v old new new (fits z) (Ok z) Overflow (λ x. z ≡ x) (IsInteger z) (fits_decides z) expected (λ within holds. (stays_same v new holds, refl))

-- a number that is expected not to be 0
apart_answers : (v : Valuation) (old mid new : Evaluator) (b : ℤ) (r : ℤ → Result ℤ Fault) (fault : Fault) (C : ℤ → Type 0) → r (pos 0) ≡ Err fault
    → Expected v old mid (b ≢ pos 0) → (b ≢ pos 0 → Holds v mid.path → Answers v mid new (r b) C) → Answers v old new (r b) C
apart_answers v old mid new b r fault C none expected next = by b expected next
  where
    goes : (z : ℤ) → z ≢ pos 0 → Expected v old mid (z ≢ pos 0) → (z ≢ pos 0 → Holds v mid.path → Answers v mid new (r z) C) → Answers v old new (r z) C
    goes z apart expected next = let on = expected.0 apart in answers_after v old mid new (r z) C on (next apart on.holds)

    by : (z : ℤ) → Expected v old mid (z ≢ pos 0) → (z ≢ pos 0 → Holds v mid.path → Answers v mid new (r z) C) → Answers v old new (r z) C
    by (pos zero) expected next = rw none (faults v old mid (pos 0 ≢ pos 0) expected (λ apart. apart refl))
    by (pos (suc n)) expected next = goes (pos (suc n)) (λ e. absurd (cc (e))) expected next
    by (negsuc n) expected next = goes (negsuc n) (λ e. absurd (cc (e))) expected next

pub pushed_answers : (v : Valuation) (old new : Evaluator) (z : ℤ) → Expected v old new (z ≢ pos 0) → Answers v old new (pushed z) (λ x. z ≡ x)
pushed_answers v old new z expected =
    apart_answers v old new new z pushed Trapped (λ x. z ≡ x) refl expected (λ apart holds. by z apart (stays_same v new holds))
  where
    by : (w : ℤ) → w ≢ pos 0 → StaysOn v new new → Answers v new new (pushed w) (λ x. w ≡ x)
    by (pos zero) apart stays = absurd (apart refl)
    by (pos (suc n)) apart stays = (stays, refl)
    by (negsuc n) apart stays = (stays, refl)

quotient_is : (a b : ℤ) → b ≢ pos 0 → quotient a b ≡ in_range (int_div a b)
quotient_is a (pos zero) apart = absurd (apart refl)
quotient_is a (pos (suc n)) apart = refl
quotient_is a (negsuc n) apart = refl

pub quotient_answers : (v : Valuation) (old mid new : Evaluator) (a b : ℤ) (C : ℤ → Type 0) → Expected v old mid (b ≢ pos 0)
    → (b ≢ pos 0 → Holds v mid.path → Answers v mid new (in_range (int_div a b)) C) → Answers v old new (quotient a b) C
quotient_answers v old mid new a b C expected next =
    apart_answers v old mid new b (quotient a) DivideByZero C refl expected (λ apart on. rw (quotient_is a b apart) (next apart on))

modulus_is : (a b : ℤ) → b ≢ pos 0 → modulus a b ≡ in_range (int_rem a b)
modulus_is a (pos zero) apart = absurd (apart refl)
modulus_is a (pos (suc n)) apart = refl
modulus_is a (negsuc n) apart = refl

pub modulus_answers : (v : Valuation) (old mid new : Evaluator) (a b : ℤ) (C : ℤ → Type 0) → Expected v old mid (b ≢ pos 0)
    → (b ≢ pos 0 → Holds v mid.path → Answers v mid new (in_range (int_rem a b)) C) → Answers v old new (modulus a b) C
modulus_answers v old mid new a b C expected next =
    apart_answers v old mid new b (modulus a) DivideByZero C refl expected (λ apart on. rw (modulus_is a b apart) (next apart on))
