-- The values of terms.
use Rattle.std.specs.Prelude.{◌≡◌, ◌∷◌, ◌+ℤ◌, ◌*ℤ◌, ℕ, Bool, true, List, [], Option, IfSome, ℤ, pos}
use Rattle.f77_terms.specs.declared.terms.Part.{Part}
use Rattle.f77_terms.specs.declared.terms.Term.{Term}

-- the number of each atom
abbrev pub Valuation : Type 0
Valuation = ℕ → ℤ

-- the number of its atom, so many times
abbrev pub part_value : Valuation → Part → ℤ
part_value v part = part.factor *ℤ v part.atom

abbrev pub parts_value : Valuation → List Part → ℤ
parts_value v [] = pos 0
parts_value v (part ∷ parts) = part_value v part +ℤ parts_value v parts

-- the constant and all parts
abbrev pub sum_value : Valuation → Term → ℤ
sum_value v term = term.constant +ℤ parts_value v term.parts.items

-- if there is a term, it has this value
abbrev pub IsWorth : Option Term → (Valuation → ℤ) → Type 0
IsWorth made value = IfSome made (λ term. (v : Valuation) → sum_value v term ≡ value v)

-- if it was done, this was added
abbrev pub AddsIfDone : Term → Term → Bool → (Valuation → ℤ) → Type 0
AddsIfDone old new done value =
    done ≡ true → (v : Valuation) → sum_value v new ≡ sum_value v old +ℤ value v
