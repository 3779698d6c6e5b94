-- What is answered and what a step leads to, from what is answered before.
use Rattle.f77_symbolic.proofs.Common.{◌≡◌, true, refl, sym, subst, ◌∙◌, Result, Ok, Err, Some, Fault, given, both, Cells, Move, used, Holds, Valuation}
use Rattle.f77_symbolic.proofs.Common.{Evaluator, Side, Step, Answers, StaysOn, Stepped}

module _ (v : Valuation) (old mid new : Evaluator) where
  -- one step and then another
  pub stays_then : StaysOn v old mid → StaysOn v mid new → StaysOn v old new
  stays_then first next = record { holds = next.holds; own = next.own ∙ first.own }

  -- a fault after a step is one before it
  pub own_before : StaysOn v old mid → mid.own ≡ true → old.own ≡ true
  own_before first own = sym first.own ∙ own

  -- what is answered from the middle on is answered from the beginning
  pub answers_after : {A : Type 0} (r : Result A Fault) (C : A → Type 0) → StaysOn v old mid → Answers v mid new r C → Answers v old new r C
  answers_after (Ok x) C first next = (stays_then first next.0, next.1)
  answers_after (Err fault) C first next = own_before first next

  -- so is what an operation makes of a value that is known
  pub answers_at : {A B : Type 0} (f : A → Result B Fault) (a b : A) (D : B → Type 0) → StaysOn v old mid → a ≡ b
      → (Holds v mid.path → Answers v mid new (f a) D) → Answers v old new (f b) D
  answers_at f a b D stays is next = answers_after (f b) D stays (subst (λ z. Answers v mid new (f z) D) is (next stays.holds))

  -- a result is used by an operation
  pub given_answers : {A B : Type 0} (r : Result A Fault) (f : A → Result B Fault) (C : A → Type 0) (D : B → Type 0)
      → Answers v old mid r C → (Holds v mid.path → (x : A) → C x → Answers v mid new (f x) D) → Answers v old new (given r f) D
  given_answers (Ok x) f C D first next = answers_after (f x) D first.0 (next first.0.holds x first.1)
  given_answers (Err fault) f C D first next = first

  -- a result that is known is used by an operation
  pub known_answers : {A B : Type 0} (r : Result A Fault) (f : A → Result B Fault) (a : A) (D : B → Type 0)
      → Answers v old mid r (λ x. a ≡ x) → (Holds v mid.path → Answers v mid new (f a) D) → Answers v old new (given r f) D
  known_answers r f a D first next =
      given_answers r f (λ x. a ≡ x) D first (λ holds x is. subst (λ z. Answers v mid new (f z) D) is (next holds))

-- two results that are known are used by an operation
pub both_answers : {A B : Type 0} (v : Valuation) (old mid late new : Evaluator) (f : A → A → Result B Fault) (r s : Result A Fault) (a b : A) (D : B → Type 0)
    → Answers v old mid r (λ x. a ≡ x) → (Holds v mid.path → Answers v mid late s (λ x. b ≡ x))
    → (Holds v late.path → Answers v late new (f a b) D) → Answers v old new (both f r s) D
both_answers v old mid late new f r s a b D first second last =
    known_answers v old mid new r (λ x. given s (λ y. f x y)) a D first
    (λ holds. known_answers v mid late new s (λ y. f a y) b D (second holds) last)

-- where the path holds, nothing was done
pub stays_same : (v : Valuation) (evaluator : Evaluator) → Holds v evaluator.path → StaysOn v evaluator evaluator
stays_same v evaluator holds = record { holds = holds; own = refl }

-- a step is that of the beginning if it is one of what the answer leads to
pub used_steps : {A : Type 0} (start : Cells) (v : Valuation) (old mid new : Evaluator) (before after : Side) (step : Step) (r : Result A Fault) (cells : Cells)
    (f : A → Move) (C : A → Type 0) → Answers v old mid r C
    → (Holds v mid.path → (x : A) → C x → Stepped start v mid.own new.path before after step (Some (f x)))
    → Stepped start v old.own new.path before after step (Some (used r cells f))
used_steps start v old mid new before after step (Ok x) cells f C first next =
    subst (λ own. Stepped start v own new.path before after step (Some (f x))) first.0.own (next first.0.holds x first.1)
used_steps start v old mid new before after step (Err fault) cells f C first next = first

-- the same where the result is known
pub known_steps : {A : Type 0} (start : Cells) (v : Valuation) (old mid new : Evaluator) (before after : Side) (step : Step) (r : Result A Fault) (cells : Cells)
    (f : A → Move) (a : A) → Answers v old mid r (λ x. a ≡ x)
    → (Holds v mid.path → Stepped start v mid.own new.path before after step (Some (f a)))
    → Stepped start v old.own new.path before after step (Some (used r cells f))
known_steps start v old mid new before after step r cells f a first next =
    used_steps start v old mid new before after step r cells f (λ x. a ≡ x) first
    (λ holds x is. subst (λ z. Stepped start v mid.own new.path before after step (Some (f z))) is (next holds))
