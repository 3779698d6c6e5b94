-- The slots of dummy arguments, and what is known of slots that are given values.
use Rattle.std.specs.Prelude.{◌≡◌, ◌+◌, ◌≤◌, ◌<◌, ℕ, zero, suc, List, Some, slice_get, slice_set}
use Rattle.f77_equivalence.specs.Prelude.{Shape, size_of}
use Rattle.f77_facts.specs.declared.facts.Fact.{Fact}

-- the slot is one of the dummy argument n, which has this shape
pub record IsOfDummy (dummies : List ℕ) (shapes : List Shape) (slot n : ℕ) (shape : Shape) : Type 0 where
  pub first : ℕ
  pub starts : slice_get dummies n ≡ Some first
  pub shaped : slice_get shapes n ≡ Some shape
  pub above : first ≤ slot
  pub below : slot < first + size_of shape

-- so many slots from the first on are given what suits the fact
abbrev pub facts_given : List Fact → ℕ → ℕ → Fact → List Fact
facts_given facts first zero fact = facts
facts_given facts first (suc count) fact =
    facts_given (slice_set facts first fact) (first + 1) count fact
