-- Texts of one length that are the same in each place.
use Rattle.f77_tree.proofs.Common.{refl, ◌≡◌, ℕ, sym, ◌∙◌, ap, arith, List, [], ◌∷◌, true, length, ◌<◌, ◌+◌, suc, ◌&&◌, inl, inr, slice_index_or, nat_eq}
use Rattle.std.specs.Str.{bytes_eq}
use Rattle.std.proofs.lemmas.Bool.{cases_lt}
use Rattle.std.proofs.lemmas.Bool.Decides.{nat_tests}

pub same_texts : (s t : List ℕ) → length s ≡ length t → ((i : ℕ) → i < length s → slice_index_or s i 0 ≡ slice_index_or t i 0)
    → bytes_eq s t ≡ true
same_texts [] [] long same = refl
same_texts [] (d ∷ t) long same = absurd (omega (arith, long))
same_texts (c ∷ s) [] long same = absurd (omega (arith, long))
same_texts (c ∷ s) (d ∷ t) long same =
    let first : c ≡ d = same 0 (omega arith) in
    let equal : nat_eq c d ≡ true = grind (arith, nat_tests) in
    ap (λ b. b && bytes_eq s t) equal ∙ same_texts s t (omega (arith, long)) (λ i within. same (suc i) (omega (arith, within)))

-- one more place
pub same_more : (s t : List ℕ) (n : ℕ) → slice_index_or s n 0 ≡ slice_index_or t n 0
    → ((i : ℕ) → i < n → slice_index_or s i 0 ≡ slice_index_or t i 0)
    → (i : ℕ) → i < n + 1 → slice_index_or s i 0 ≡ slice_index_or t i 0
same_more s t n here before i within = elim (cases_lt i n) [
  | inl below ↦ before i below
  | inr past ↦
      let same : i ≡ n = omega (arith, within, past) in
      ap (λ k. slice_index_or s k 0) same ∙ here ∙ sym (ap (λ k. slice_index_or t k 0) same)
]
