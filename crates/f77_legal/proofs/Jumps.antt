-- A test of the labels that a statement may jump to, one after another.
use Rattle.f77_legal.proofs.Common.{◌≡◌, ◌∙◌, ap, List, refl, ℕ, [], false, ◌∷◌, length, Bool, arith, ◌+◌, ◌||◌, suc, slice_get, list_any, range_with_len}
use Rattle.f77_legal.proofs.Common.{option_map_or}

module _ (test : ℕ → Bool) where
  -- the labels from number k on
  any_from : (all labels : List ℕ) (k : ℕ) → ((i : ℕ) → slice_get all (k + i) ≡ slice_get labels i)
      → list_any (λ i. option_map_or test (slice_get all i) false) (range_with_len k (length labels)) ≡ list_any test labels
  any_from all [] k agree = refl
  any_from all (label ∷ labels) k agree =
      let here : k ≡ k + 0 = omega arith in
      let first = ap (slice_get all) here ∙ agree 0 in
      let rest = any_from all labels (k + 1) (λ i. let next : k + 1 + i ≡ k + suc i = omega arith in ap (slice_get all) next ∙ agree (suc i)) in
      λ j. option_map_or test (first j) false || rest j

  pub any_jump : (labels : List ℕ) → list_any (λ k. option_map_or test (slice_get labels k) false) (range_with_len 0 (length labels)) ≡ list_any test labels
  any_jump labels = any_from labels labels 0 (λ i. let same : 0 + i ≡ i = omega arith in ap (slice_get labels) same)
