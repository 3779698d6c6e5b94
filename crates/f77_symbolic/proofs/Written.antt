-- What slots hold behind writes.
use Rattle.f77_symbolic.proofs.Common.{◌≡◌, ◌<◌, ◌+◌, inl, inr, ℕ, zero, suc, List, [], ◌∷◌, ◌++◌, length, take, get_or, take_more, Option, Some, refl, sym, subst, ap, ◌∙◌, slice_get}
use Rattle.f77_symbolic.proofs.Common.{slice_set, remove, length-set, set-set, set_comm, slice_get_within, get_or_from_slice_get, Value, Cells, cases_eq}
use Rattle.f77_symbolic.proofs.Common.{Valuation, Location, Write, AreInside, IsInside, cells_of, slot_of, content_of}
use Rattle.f77_symbolic.proofs.Located.{only_slot}

-- cells that differ in one slot at most, where a slot is set
set_but : (slot k : ℕ) (cell a : Option Value) (cells others : Cells) → slice_set cells slot cell ≡ slice_set others slot cell
    → slice_set (slice_set cells k a) slot cell ≡ slice_set (slice_set others k a) slot cell
set_but slot k cell a cells others same = elim (cases_eq k slot) [
  | inl here ↦ rw here (set-set cells slot a cell ∙ same ∙ sym (set-set others slot a cell))
  | inr apart ↦ set_comm cells k slot a cell apart ∙ ap (λ cs. slice_set cs k a) same ∙ sym (set_comm others k slot a cell apart)
]

module _ (v : Valuation) where
  -- each was inside
  pub inside_at : (ws : List Write) (k : ℕ) (w : Write) → slice_get ws k ≡ Some w → AreInside v ws → IsInside v w.location
  inside_at ws k w is are =
      subst (λ (x : Write). IsInside v x.location) (get_or_from_slice_get ws k w w is) (are k w (slice_get_within ws k w is))

  -- of one slot alone it is the first one
  pub slot_alone : (location : Location) → IsInside v location → location.count ≡ 1 → slot_of v location ≡ location.first
  slot_alone location inside one = only_slot location.first location.count _ inside.above inside.below one

  -- one write more
  pub cells_push : (cells : Cells) (ws : List Write) (w : Write)
      → cells_of cells v (ws ++ w ∷ []) ≡ slice_set (cells_of cells v ws) (slot_of v w.location) (content_of v w.value)
  cells_push cells [] w = refl
  cells_push cells (x ∷ ws) w = cells_push (slice_set cells (slot_of v x.location) (content_of v x.value)) ws w

  pub cells_next : (cells : Cells) (ws : List Write) (i : ℕ) (w : Write) → i < length ws → w ≡ get_or ws i w
      → cells_of cells v (take (i + 1) ws) ≡ slice_set (cells_of cells v (take i ws)) (slot_of v w.location) (content_of v w.value)
  cells_next cells ws i w within is =
      ap (cells_of cells v) (take_more ws i w within ∙ ap (λ x. take i ws ++ x ∷ []) (sym is)) ∙ cells_push cells (take i ws) w

  -- there are as many slots as before
  pub cells_length : (cells : Cells) (ws : List Write) → length (cells_of cells v ws) ≡ length cells
  cells_length cells [] = refl
  cells_length cells (x ∷ ws) =
      cells_length (slice_set cells (slot_of v x.location) (content_of v x.value)) ws
      ∙ length-set cells (slot_of v x.location) (content_of v x.value)

  cells_but : (slot : ℕ) (cell : Option Value) (cells others : Cells) (ws : List Write)
      → slice_set cells slot cell ≡ slice_set others slot cell
      → slice_set (cells_of cells v ws) slot cell ≡ slice_set (cells_of others v ws) slot cell
  cells_but slot cell cells others [] same = same
  cells_but slot cell cells others (x ∷ ws) same =
      cells_but slot cell (slice_set cells (slot_of v x.location) (content_of v x.value))
      (slice_set others (slot_of v x.location) (content_of v x.value)) ws
      (set_but slot (slot_of v x.location) cell (content_of v x.value) cells others same)

  -- a write to a slot that is set behind it may be left out
  pub cells_without : (slot : ℕ) (cell : Option Value) (cells : Cells) (ws : List Write) (place : ℕ) (w : Write)
      → slice_get ws place ≡ Some w → slot_of v w.location ≡ slot
      → slice_set (cells_of cells v (remove ws place)) slot cell ≡ slice_set (cells_of cells v ws) slot cell
  cells_without slot cell cells [] place w is here = absurd (cc (is))
  cells_without slot cell cells (x ∷ ws) zero w is here =
      let same : x ≡ w = cc (is) in
      let there : slot_of v x.location ≡ slot = ap (λ (y : Write). slot_of v y.location) same ∙ here in
      cells_but slot cell cells (slice_set cells (slot_of v x.location) (content_of v x.value)) ws
      (sym (ap (λ k. slice_set (slice_set cells k (content_of v x.value)) slot cell) there ∙ set-set cells slot (content_of v x.value) cell))
  cells_without slot cell cells (x ∷ ws) (suc place) w is here =
      cells_without slot cell (slice_set cells (slot_of v x.location) (content_of v x.value)) ws place w is here
