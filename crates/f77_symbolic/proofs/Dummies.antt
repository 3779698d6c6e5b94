-- The slots of dummy arguments.
use Rattle.f77_symbolic.proofs.Common.{arith, ◌≡◌, ◌<◌, ◌≤◌, ◌+◌, ℕ, List, [], ◌∷◌, ◌++◌, length, min, Some, subst, sym, ◌∙◌, slice_get, get_or_append_left}
use Rattle.f77_symbolic.proofs.Common.{length_push, slice_get_within, Shape, Slots, IsSlotOf}
use Rattle.f77_equivalence.specs.code.StartSlots.{IsOfDummy}
use Rattle.f77_meaning.specs.Spans.{size_of}

module _ (dummies : List ℕ) (shapes : List Shape) (slot : ℕ) where
  -- the shape of the argument of which it is one
  pub of_dummy : (n first : ℕ) (shape : Shape) → slice_get dummies n ≡ Some first → slice_get shapes n ≡ Some shape
      → (other : Shape) → IsOfDummy dummies shapes slot n other → (first ≤ slot) × (slot < first + size_of shape) × (shape ≡ other)
  of_dummy n first shape starts shaped other of =
      let its_start = of.starts in
      let its_shape = of.shaped in
      let one : first ≡ of.first = cc (starts, its_start) in
      let same : shape ≡ other = cc (shaped, its_shape) in
      let above = of.above in
      let below : slot < of.first + size_of shape = subst (λ (s : Shape). slot < of.first + size_of s) (sym same) of.below in
      (omega (arith, above, one), omega (arith, below, one), same)

  -- there is an argument of this number
  pub dummy_within : (n : ℕ) (shape : Shape) → IsOfDummy dummies shapes slot n shape → n < min (length dummies) (length shapes)
  dummy_within n shape of =
      let starts = slice_get_within dummies n of.first of.starts in
      let shaped = slice_get_within shapes n shape of.shaped in
      omega (arith, starts, shaped)

-- slots more do no harm
pub slot_more : (slot : ℕ) (list : List Slots) (slots : Slots) → IsSlotOf slot list → IsSlotOf slot (list ++ slots ∷ [])
slot_more slot list slots it =
    let within : it.0 < length list = it.2 in
    (it.0, it.1, omega (arith, within, length_push list slots), get_or_append_left list (slots ∷ []) it.1 it.0 it.2 ∙ it.3, it.4)
