-- What dummy arguments hold is the same where their slots hold the same.
use Rattle.f77_symbolic.proofs.Common.{arith, ◌≡◌, ◌<◌, ℕ, suc, ◌+◌, List, [], ◌∷◌, map, Option, Some, refl, sym, ap, ◌∙◌, slice_get, zip, line_of}
use Rattle.f77_symbolic.proofs.Common.{CheckedFields, IsChecked, Shape, Value, held_in, Cells, HoldAlike, Slots, HaveDummies, HoldSameIn}
use Rattle.f77_meaning.specs.Spans.{size_of}
use Rattle.f77_meaning.specs.code.Spans.{span}
use Rattle.f77_meaning.proofs.Reading.{spans_read}
use Rattle.f77_meaning.proofs.Stored.{same_table}

-- what the slots of the dummy arguments hold
abbrev spans_in : Cells → List Shape → List ℕ → List (List (Option Value))
spans_in cells shapes dummies = map (λ pair. span pair.1 (size_of pair.0) cells) (zip shapes dummies)

spans_alike : (cells others : Cells) (shapes : List Shape) (dummies : List ℕ)
    → ((n first : ℕ) (shape : Shape) → slice_get dummies n ≡ Some first → slice_get shapes n ≡ Some shape → (j : ℕ) → j < size_of shape
    → held_in others (first + j) ≡ held_in cells (first + j))
    → spans_in others shapes dummies ≡ spans_in cells shapes dummies
spans_alike cells others [] dummies each = refl
spans_alike cells others (shape ∷ shapes) [] each = refl
spans_alike cells others (shape ∷ shapes) (first ∷ dummies) each =
    let here : span first (size_of shape) others ≡ span first (size_of shape) cells
    = same_table (λ k. held_in others (first + k)) (λ k. held_in cells (first + k)) (size_of shape) (λ j below. each 0 first shape refl refl j below) in
    let later : spans_in others shapes dummies ≡ spans_in cells shapes dummies
    = spans_alike cells others shapes dummies (λ n slot other at shaped j below. each (suc n) slot other at shaped j below) in
    λ i. here i ∷ later i

-- slots among which those of all dummy arguments are
pub hold_alike : (checked : CheckedFields) (list : List Slots) (cells others : Cells) → IsChecked checked → HaveDummies checked list
    → ((slot : ℕ) → HoldSameIn (Some list) cells others slot) → HoldAlike checked cells others
hold_alike checked list cells others is have same =
    let p = map line_of checked.program in
    let slots = checked.start.dummies.items in
    let alike : spans_in others checked.arguments slots ≡ spans_in cells checked.arguments slots
    = spans_alike cells others checked.arguments slots
    (λ n first shape at shaped j below. same (first + j)
    (have (first + j) n shape (record { first = first; starts = at; shaped = shaped; above = omega arith; below = omega (arith, below) }))) in
    sym (spans_read p checked.names others slots is.start.dummies) ∙ sym (ap (λ list. spans_in others list slots) is.arguments) ∙ alike
    ∙ ap (λ list. spans_in cells list slots) is.arguments ∙ spans_read p checked.names cells slots is.start.dummies
