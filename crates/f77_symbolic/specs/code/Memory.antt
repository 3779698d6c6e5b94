-- What slots hold where some were written to, by terms over what they held at the start.
-- Private functions and proofs alone cite what stands here.
use Rattle.std.specs.Prelude.{◌≡◌, ◌≤◌, ◌<◌, ◌+◌, ℕ, List, Any, length, Option, Some, None}
use Rattle.f77_symbolic.specs.Prelude.{CheckedFields, held_in, Cells, AreIn, SuitsFact}
use Rattle.f77_check.specs.declared.checked.Shape.{Shape}
use Rattle.f77_equivalence.specs.code.StartSlots.{IsOfDummy}
use Rattle.f77_facts.specs.declared.facts.Fact.{Fact}
use Rattle.f77_facts.specs.declared.assigning.Slots.{Slots}

-- the slot is there, and what it holds suits the fact
pub record IsKnownAt (facts : List Fact) (slot : ℕ) (fact : Fact) : Type 0 where
  pub within : slot < length facts
  pub suits : (cells : Cells) → AreIn facts cells → SuitsFact fact (held_in cells slot)

-- the slot is one of these
abbrev pub IsSlotOf : ℕ → List Slots → Type 0
IsSlotOf slot list = Any (λ slots. (slots.first ≤ slot) × (slot < slots.first + slots.count)) list

-- the slots of all dummy arguments are among these
abbrev pub HaveDummies : CheckedFields → List Slots → Type 0
HaveDummies checked list =
    (slot n : ℕ) (shape : Shape) → IsOfDummy checked.start.dummies.items checked.arguments slot n shape
    → IsSlotOf slot list

-- the slot is one of these, if some are given
abbrev pub IsAsked : Option (List Slots) → ℕ → Type 0
IsAsked None slot = Unit {0}
IsAsked (Some list) slot = IsSlotOf slot list

-- if the slot is one of these, the second cells hold the same in it as the first
abbrev pub HoldSameIn : Option (List Slots) → Cells → Cells → ℕ → Type 0
HoldSameIn only cells others slot = IsAsked only slot → held_in others slot ≡ held_in cells slot
