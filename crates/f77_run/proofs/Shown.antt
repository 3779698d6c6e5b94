-- What is shown of the registers is what the dummy arguments hold.
use Rattle.f77_run.proofs.Common.{◌≡◌, sym, ◌∙◌, ap, List, refl, ◌<◌, ℕ, Some, true, None, ℤ, ◌+◌, Option, slice_get, list_any, bytes_eq, slot_kinds}
use Rattle.f77_run.proofs.Common.{first_slot, all_at, held_in, HoldsRegisters, Cells, Constants, dummies, element_count, kind_of, bounds_of, Symbol}
use Rattle.f77_run.proofs.Common.{AgreeOnDummies, kind_read, IsTyped, has_kind, LineFields, shown_cells, plan_of, Kind}
use Rattle.f77_meaning.specs.States.{values_of}
use Rattle.f77_meaning.proofs.Cells.{read_table}
use Rattle.f77_meaning.proofs.Stored.{held_from, same_table}
use Rattle.f77_run.proofs.Loaded.{shown_is}

module _ (p : List LineFields) (names : List Symbol) (table : Constants) (registers : List ℤ) (cells : Cells) where
  abbrev kinds : List Kind
  kinds = slot_kinds (kind_of p) (bounds_of p) names

  module _ (holds : HoldsRegisters (plan_of kinds table) registers cells) (typed : IsTyped p (values_of (bounds_of p) names cells)) where
    -- an element of a dummy argument that has this first slot, if any
    element_shown : (name : Symbol) → list_any (bytes_eq name) (dummies p) ≡ true → (j : ℕ) → j < element_count p name
        → (o : Option ℕ) → first_slot (bounds_of p) names name ≡ o → held_from cells o j ≡ held_from (shown_cells kinds registers) o j
    element_shown name among j below None starts = refl
    element_shown name among j below (Some first) starts =
        let values = typed name among in
        let read : slice_get (values_of (bounds_of p) names cells name) j ≡ Some (held_in cells (first + j))
        = read_table (held_from cells (first_slot (bounds_of p) names name)) (element_count p name) j below ∙ ap (λ o. Some (held_from cells o j)) starts in
        let own : has_kind (kind_of p name) (held_in cells (first + j)) ≡ true
        = all_at (has_kind (kind_of p name)) (values_of (bounds_of p) names cells name) j (held_in cells (first + j)) values.each read in
        let kind : slice_get kinds (first + j) ≡ Some (kind_of p name) = kind_read (kind_of p) (bounds_of p) names name first j starts below in
        sym (shown_is kinds table registers cells holds (first + j) (kind_of p name) kind own)

    pub agree_on_dummies : AgreeOnDummies p (values_of (bounds_of p) names cells) (values_of (bounds_of p) names (shown_cells kinds registers))
    agree_on_dummies name among =
        same_table
        (held_from cells (first_slot (bounds_of p) names name))
        (held_from (shown_cells kinds registers) (first_slot (bounds_of p) names name))
        (element_count p name)
        (λ j below. element_shown name among j below (first_slot (bounds_of p) names name) refl)
