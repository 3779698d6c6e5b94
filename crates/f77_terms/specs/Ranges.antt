-- Ranges of numbers.
use Rattle.std.specs.Prelude.{◌≡◌, ◌≤ℤ◌, ℕ, ℤ, List, Option, Some, slice_get}
use Rattle.f77_terms.specs.declared.ranges.Range.{Range}
use Rattle.f77_terms.specs.Terms.{Valuation}

pub record LiesBetween (low : ℤ) (z : ℤ) (high : ℤ) : Type 0 where
  pub above : low ≤ℤ z
  pub below : z ≤ℤ high

-- the number is in the range
abbrev pub IsIn : Range → ℤ → Type 0
IsIn range z = LiesBetween range.low z range.high

-- the number of each atom is in its range, if there is one
abbrev pub AreKnown : Valuation → List (Option Range) → Type 0
AreKnown v known =
    (k : ℕ) (range : Range) → slice_get known k ≡ Some (Some range) → IsIn range (v k)
