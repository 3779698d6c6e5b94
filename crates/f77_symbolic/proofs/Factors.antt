-- Powers with an exponent above 0.
use Rattle.f77_symbolic.proofs.Common.{arith, ◌≡◌, ℕ, zero, suc, refl, sym, ap, subst, ◌∙◌, ℤ, pos, negsuc, ◌+ℤ◌, ◌*ℤ◌, ◌≤ℤ◌, ints, zero-*ℤ, exact_power, in_range, Term}
use Rattle.f77_symbolic.proofs.Common.{power, Evaluator, Extends, AlwaysTells, Answers, StaysOn, Holds, Valuation, sum_value}
use Rattle.f77_symbolic.proofs.Answering.{answers_after, stays_then}

power_above : (a : ℤ) (n : ℕ) → power a (pos (suc n)) ≡ in_range (exact_power a (suc n))
power_above (pos zero) n = sym (ap in_range (zero-*ℤ (exact_power (pos 0) n)))
power_above (pos (suc k)) n = refl
power_above (negsuc k) n = refl

-- a power that is made of so many factors
pub power_answers : (v : Valuation) (old mid new : Evaluator) (a b e t : ℤ) (C : ℤ → Type 0) → b ≡ e → pos 1 ≤ℤ e
    → ((n : ℕ) → e ≡ pos n → StaysOn v old mid × (t ≡ exact_power a n)) → (Holds v mid.path → Answers v mid new (in_range t) C)
    → Answers v old new (power a b) C
power_answers v old mid new a b (pos zero) t C is above made next = absurd (omega (arith, ints, above))
power_answers v old mid new a b (pos (suc n)) t C is above made next =
    let it = made (suc n) refl in
    subst (λ r. Answers v old new r C) (ap in_range it.1 ∙ sym (power_above a n) ∙ sym (ap (power a) is))
    (answers_after v old mid new (in_range t) C it.0 (next it.0.holds))
power_answers v old mid new a b (negsuc n) t C is above made next = absurd (omega (arith, ints, above))

-- the term is worth so many factors
abbrev pub IsRepeated : Evaluator → Evaluator → Term → Term → ℤ → Type 0
IsRepeated old new a t count = (n : ℕ) → count ≡ pos n → AlwaysTells old new (λ start v. sum_value v t ≡ exact_power (sum_value v a) n)

-- one factor more
pub factor_more : (old mid new : Evaluator) (a p t : Term) (counter next : ℤ) → pos 1 ≤ℤ counter → next ≡ counter +ℤ pos 1 → Extends mid.atoms new.atoms
    → IsRepeated old mid a p counter → AlwaysTells mid new (λ start v. sum_value v t ≡ sum_value v a *ℤ sum_value v p) → IsRepeated old new a t next
factor_more old mid new a p t counter next above step extends before made zero is start v interprets holds =
    absurd (omega (arith, ints, above, step, is))
factor_more old mid new a p t counter next above step extends before made (suc k) is start v interprets holds =
    let first = before k (omega (arith, ints, step, is)) start v (extends.back start v interprets) holds in
    let then = made start v interprets first.0.holds in
    (stays_then v old mid new first.0 then.0, then.1 ∙ ap (λ z. sum_value v a *ℤ z) first.1)
