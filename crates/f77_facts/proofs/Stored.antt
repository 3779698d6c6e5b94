-- What is known after an assignment.
use Rattle.f77_facts.proofs.Common.{arith, ◌≡◌, inl, inr, ℕ, ◌<◌, ◌≤◌, ◌+◌, List, length, Option, Some, sym, subst, slice_get, slice_set, held_in, Cells}
use Rattle.f77_facts.proofs.Common.{SuitsFact, AreIn, Implies}
use Rattle.std.proofs.lemmas.Bool.{cases_lt}
use Rattle.std.proofs.lemmas.List.{set_past}
use Rattle.f77_actions.specs.declared.value.Value.{Value}
use Rattle.f77_facts.specs.declared.facts.Fact.{Fact}
use Rattle.f77_facts.proofs.Slots.{set_one, set_both}

-- what suits the old facts suits the new ones, also where one of these slots is given what suits the fact
pub record Widens (old new : List Fact) (from end : ℕ) (fact : Fact) : Type 0 where
  pub kept : (cells : Cells) → AreIn old cells → AreIn new cells
  pub given : (cells : Cells) (k : ℕ) (cell : Option Value) → AreIn old cells → from ≤ k → k < end → SuitsFact fact cell → AreIn new (slice_set cells k cell)

-- one more slot's fact is widened
pub widens_more : (old now : List Fact) (from k : ℕ) (fact own hull : Fact) → Widens old now from k fact → slice_get now k ≡ Some own → Implies own hull → Implies fact hull
    → Widens old (slice_set now k hull) from (k + 1) fact
widens_more old now from k fact own hull before is first second = record {
  kept = λ cells inside. keep cells (before.kept cells inside);
  given = λ cells j cell inside low high suits. elim (cases_lt j k) [
    | inl below ↦ keep (slice_set cells j cell) (before.given cells j cell inside low below suits)
    | inr above ↦
        let same : k ≡ j = omega (arith, high, above) in
        subst (λ i. AreIn (slice_set now k hull) (slice_set cells i cell)) same (set_both now cells k hull cell (before.kept cells inside) (second cell suits))
  ];
}
  where
    keep : (cells : Cells) → AreIn now cells → AreIn (slice_set now k hull) cells
    keep cells inside = set_one now cells k hull inside (first (held_in cells k) (inside.each k own is))

-- a slot is given what suits the fact, or there is no such slot
pub widens_all : (old new : List Fact) (from end k : ℕ) (fact : Fact) → Widens old new from end fact → from ≤ k → (k < length old → k < end)
    → (cells : Cells) (cell : Option Value) → AreIn old cells → SuitsFact fact cell → AreIn new (slice_set cells k cell)
widens_all old new from end k fact widens low high cells cell inside suits = elim (cases_lt k (length old)) [
  | inl below ↦ widens.given cells k cell inside low (high below) suits
  | inr above ↦
      let past : length cells ≤ k = omega (arith, above, inside.count) in
      subst (AreIn new) (sym (set_past cells k cell past)) (widens.kept cells inside)
]
