-- What an evaluator finds of expressions.
-- Private functions and proofs alone cite what stands here.
use Rattle.std.specs.Prelude.{◌≡◌, ◌+◌, ◌<◌, ◌≤ℤ◌, ◌<ℤ◌, ◌⊎◌, ℕ, ℤ, pos, int_div, int_rem}
use Rattle.std.specs.Prelude.{Bool, true, List, Option, Some, None, Result, Ok, Err}
use Rattle.f77_actions.specs.declared.finish.Fault.{Fault}
use Rattle.f77_symbolic.specs.Prelude.{Value, held_in, Cells, Holds, Valuation, sum_value, Evaluator, Location}
use Rattle.f77_symbolic.specs.Prelude.{Symbolic, Write}
use Rattle.f77_terms.specs.declared.terms.Term.{Term}
use Rattle.f77_symbolic.specs.{Interprets, AreInside, IsInside, Start, cells_of, slot_of, content_of}

-- the new path holds, and the evaluator is of the same program
pub record StaysOn (v : Valuation) (old new : Evaluator) : Type 0 where
  pub holds : Holds v new.path
  pub own : new.own ≡ old.own

-- so it is whatever the atoms mean, where the old path holds
abbrev pub Always : Evaluator → Evaluator → (Start → Valuation → Type 0) → Type 0
Always old new Claim =
    (start : Start) (v : Valuation) → Interprets new.atoms start v → Holds v old.path → Claim start v

-- so it is always, and the new path holds
abbrev pub AlwaysTells : Evaluator → Evaluator → (Start → Valuation → Type 0) → Type 0
AlwaysTells old new Claim = Always old new (λ start v. StaysOn v old new × Claim start v)

-- The claim is true of the value, and the new path holds. Only the program's own faults are left out.
abbrev pub Answers : {A : Type 0} → Valuation → Evaluator → Evaluator → Result A Fault → (A → Type 0)
    → Type 0
Answers v old new (Ok x) Claim = StaysOn v old new × Claim x
Answers v old new (Err fault) Claim = old.own ≡ true

-- the term has the value that is calculated
abbrev pub Calculates : Evaluator → Evaluator → Term → (Valuation → Result ℤ Fault) → Type 0
Calculates old new term result =
    Always old new (λ start v. Answers v old new (result v) (λ z. sum_value v term ≡ z))

-- the claim is true of what an expression means behind these writes
abbrev pub Yields : {A : Type 0} → Evaluator → Evaluator → List Write → (Cells → Result A Fault)
    → (Valuation → A → Type 0) → Type 0
Yields old new writes meaning Claim =
    Always old new (λ start v. AreInside v writes
    → Answers v old new (meaning (cells_of start.cells v writes)) (Claim v))

-- the term has its value
abbrev pub YieldsNumber : Evaluator → Evaluator → List Write → Term → (Cells → Result ℤ Fault) → Type 0
YieldsNumber old new writes term meaning = Yields old new writes meaning (λ v z. sum_value v term ≡ z)

-- the truth value is this one
abbrev pub YieldsTruth : Evaluator → Evaluator → List Write → Bool → (Cells → Result Bool Fault) → Type 0
YieldsTruth old new writes b meaning = Yields old new writes meaning (λ v c. b ≡ c)

-- the location is the slot
abbrev pub YieldsSlot : Evaluator → Evaluator → List Write → Location → (Cells → Result ℕ Fault) → Type 0
YieldsSlot old new writes location meaning =
    Yields old new writes meaning (λ v k. IsInside v location × (slot_of v location ≡ k))

-- what is read is this value, or there is none and the program itself reads it
abbrev pub ReadsCell : Valuation → Evaluator → Evaluator → Option Value → Symbolic → Type 0
ReadsCell v old new cell value = (StaysOn v old new × (cell ≡ content_of v value))
    ⊎ ((old.own ≡ true) × (cell ≡ None))

-- the slot of the location is read behind these writes
abbrev pub ReadsSlot : Evaluator → Evaluator → List Write → Location → Symbolic → Type 0
ReadsSlot old new writes location value =
    Always old new (λ start v. AreInside v writes → IsInside v location
    → ReadsCell v old new (held_in (cells_of start.cells v writes) (slot_of v location)) value)

-- the new path holds where there is a value, and where there is none it is the program itself
abbrev pub GoesOnIfHeld : Valuation → Evaluator → Evaluator → Option Value → Type 0
GoesOnIfHeld v old new (Some value) = StaysOn v old new
GoesOnIfHeld v old new None = old.own ≡ true

-- Where the claim is true the new path holds. Where it is not the program faults, and it is the program itself.
abbrev pub Expects : Evaluator → Evaluator → (Valuation → Type 0) → Type 0
Expects old new Claim =
    (v : Valuation) → Holds v old.path → (Claim v → StaysOn v old new) × ((old.own ≡ true) ⊎ Claim v)

-- these are the quotient and what is left
pub record IsDivision (v : Valuation) (division : Term × Term) (a b : ℤ) : Type 0 where
  pub quotient : sum_value v division.0 ≡ int_div a b
  pub remainder : sum_value v division.1 ≡ int_rem a b

-- one of so many items has the number, counted from 1, or none has
abbrev pub HasItem : Option ℕ → ℕ → ℤ → Type 0
HasItem (Some place) count z = (place < count) × (z ≡ pos (place + 1))
HasItem None count z = (z ≤ℤ pos 0) ⊎ (pos count <ℤ z)
