-- When two sides hold the same.
use Rattle.f77_symbolic.proofs.Common.{arith, ◌≡◌, ◌≢◌, ◌⊎◌, inl, inr, ◌<◌, ℕ, suc, false, List, [], ◌∷◌, length, Option, Some, None, refl, sym}
use Rattle.f77_symbolic.proofs.Common.{subst, ap, ◌∙◌, All, get_or, slice_get, slice_get-get_or, slice_set, option_and_then, option_map, Value}
use Rattle.std.proofs.lemmas.List.{ext_get_or}
use Rattle.f77_symbolic.proofs.Common.{held_in, Cells, cases_eq, Valuation, Evaluator, Symbolic, Write, SymbolicTurn, Slots, ReadsCell, StaysOn, HoldSameIn}
use Rattle.f77_symbolic.proofs.Common.{cells_of, content_of, slot_of, turn_of, turns_of}
use Rattle.f77_code.proofs.Written.{at_other}
use Rattle.f77_symbolic.proofs.Written.{cells_length}

-- each turn is the same, so all are
pub same_turns : (v : Valuation) (a b : List (Option SymbolicTurn)) → length b ≡ length a
    → ((k : ℕ) → k < length a → option_map (option_map (turn_of v)) (slice_get b k) ≡ option_map (option_map (turn_of v)) (slice_get a k))
    → turns_of v b ≡ turns_of v a
same_turns v [] [] count same = refl
same_turns v [] (other ∷ b) count same = absurd (cc (count))
same_turns v (turn ∷ a) [] count same = absurd (cc (count))
same_turns v (turn ∷ a) (other ∷ b) count same =
    let here : Some (option_map (turn_of v) other) ≡ Some (option_map (turn_of v) turn) = same 0 (omega arith) in
    let first : option_map (turn_of v) other ≡ option_map (turn_of v) turn = cc (here) in
    let rest : turns_of v b ≡ turns_of v a = same_turns v a b (cc (count)) (λ k less. same (suc k) (omega (arith, less))) in
    λ i. first i ∷ rest i

-- what is claimed of the slot of each write is so of this slot, or it holds what it did before
claimed_or : (v : Valuation) (slot : ℕ) (P : ℕ → Type 0) (cells : Cells) (ws : List Write) → All (λ w. P (slot_of v w.location)) ws
    → P slot ⊎ (held_in (cells_of cells v ws) slot ≡ held_in cells slot)
claimed_or v slot P cells [] all = inr refl
claimed_or v slot P cells (w ∷ ws) all =
    by (cases_eq (slot_of v w.location) slot)
    (claimed_or v slot P (slice_set cells (slot_of v w.location) (content_of v w.value)) ws (λ k d less. all (suc k) d (omega (arith, less))))
  where
    by : (slot_of v w.location ≡ slot) ⊎ (slot_of v w.location ≢ slot)
        → P slot ⊎ (held_in (cells_of cells v (w ∷ ws)) slot ≡ held_in (slice_set cells (slot_of v w.location) (content_of v w.value)) slot)
        → P slot ⊎ (held_in (cells_of cells v (w ∷ ws)) slot ≡ held_in cells slot)
    by (inl here) rest = inl (subst P here (all 0 w (omega arith)))
    by (inr apart) (inl so) = inl so
    by (inr apart) (inr same) = inr (same ∙ at_other cells (slot_of v w.location) slot (content_of v w.value) (λ e. apart (sym e)))

-- where the slots of all writes of both hold the same, so do all slots
pub same_everywhere : (only : Option (List Slots)) (start : Cells) (v : Valuation) (left right : List Write)
    → All (λ w. HoldSameIn only (cells_of start v left) (cells_of start v right) (slot_of v w.location)) left
    → All (λ w. HoldSameIn only (cells_of start v left) (cells_of start v right) (slot_of v w.location)) right
    → (slot : ℕ) → HoldSameIn only (cells_of start v left) (cells_of start v right) slot
same_everywhere only start v left right own other slot =
    let Same : ℕ → Type 0 = HoldSameIn only (cells_of start v left) (cells_of start v right) in
    elim (claimed_or v slot Same start left own) [
      | inl same ↦ same
      | inr first ↦ elim (claimed_or v slot Same start right other) [
        | inl same ↦ same
        | inr second ↦ λ asked. second ∙ sym first
      ]
    ]

-- where all slots hold the same, both hold the same cells
pub same_cells_of : (start : Cells) (v : Valuation) (left right : List Write)
    → ((slot : ℕ) → HoldSameIn None (cells_of start v left) (cells_of start v right) slot) → cells_of start v right ≡ cells_of start v left
same_cells_of start v left right same =
    let count : length (cells_of start v right) ≡ length (cells_of start v left) = cells_length v start right ∙ sym (cells_length v start left) in
    ext_get_or None (cells_of start v right) (cells_of start v left) count
    (λ k below. sym (held (cells_of start v right) k below) ∙ same k tt ∙ held (cells_of start v left) k (omega (arith, below, count)))
  where
    held : (cells : Cells) (k : ℕ) → k < length cells → held_in cells k ≡ get_or cells k None
    held cells k below = ap (option_and_then (λ cell. cell)) (slice_get-get_or cells k None below)

-- what is read where no fault is assumed away
pub read_so : (v : Valuation) (old new : Evaluator) (cell : Option Value) (value : Symbolic) → old.own ≡ false → ReadsCell v old new cell value
    → StaysOn v old new × (cell ≡ content_of v value)
read_so v old new cell value off (inl it) = it
read_so v old new cell value off (inr it) = absurd (cc (off, it.0))
