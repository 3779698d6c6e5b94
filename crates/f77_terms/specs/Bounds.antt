-- Bounds of terms.
use Rattle.std.specs.Prelude.{◌≡◌, ◌≤ℤ◌, ◌<ℤ◌, ℤ, pos, All, List}
use Rattle.std.specs.declared.cmp.Ordering.{Ordering}
use Rattle.std.specs.declared.cmp.Ordering.TheVariants.{Less, Equal, Greater}
use Rattle.f77_terms.specs.declared.terms.Term.{Term}
use Rattle.f77_terms.specs.Terms.{Valuation, sum_value}

-- the term is at most 0
abbrev pub IsBelow : Valuation → Term → Type 0
IsBelow v term = sum_value v term ≤ℤ pos 0

-- each of them is
abbrev pub AreBelow : Valuation → List Term → Type 0
AreBelow v bounds = All (IsBelow v) bounds

-- the number, compared with 0
abbrev pub HasSign : Ordering → ℤ → Type 0
HasSign Less z = z <ℤ pos 0
HasSign Equal z = z ≡ pos 0
HasSign Greater z = pos 0 <ℤ z
