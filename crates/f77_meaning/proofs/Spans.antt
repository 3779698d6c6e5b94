-- The slots of a name are among all slots, and apart from those of another name.
use Rattle.f77_meaning.proofs.Common.{List, ℕ, ◌≡◌, refl, Some, ap, arith, ◌∙◌, None, false, [], sym, ◌∷◌, Option, suc, length, zero, ◌<◌, ◌+◌, inr, inl}
use Rattle.f77_meaning.proofs.Common.{option_map, ◌≤◌, map, position, ◌⊎◌, get_or, take, take_all, false≢true, cases_order, position-Some, bytes_eq-Decides}
use Rattle.f77_meaning.proofs.Common.{bytes_eq, slot_count, first_slot, product, Symbol}
use Rattle.std.proofs.lemmas.List.Sums.{sum_by-cons}

module _ (bounds : Symbol → List ℕ) where
  pub count_more : (name : Symbol) (names : List Symbol) → slot_count bounds (name ∷ names) ≡ product (bounds name) + slot_count bounds names
  count_more name names = sum_by-cons (λ n. n) (product (bounds name)) (map (λ name. product (bounds name)) names)

  -- the slots of a name are before those of a later place
  before : (names : List Symbol) (n m : ℕ) → n < m → m ≤ length names
      → slot_count bounds (take n names) + product (bounds (get_or names n [])) ≤ slot_count bounds (take m names)
  before [] n m h k = absurd (omega arith)
  before (name ∷ names) n zero h k = absurd (omega arith)
  before (name ∷ names) zero (suc m) h k = omega (arith, count_more name (take m names))
  before (name ∷ names) (suc n) (suc m) h k =
      let rest = before names n m (omega arith) (omega arith) in
      omega (arith, count_more name (take n names), count_more name (take m names), rest)

  module _ (names : List Symbol) where
    -- the place of a name with this first slot
    pub record Starts (name : Symbol) (first : ℕ) : Type 0 where
      pub at : ℕ
      pub below : at < length names
      pub is : name ≡ get_or names at []
      pub starts : slot_count bounds (take at names) ≡ first

    pub starts_at : (name : Symbol) (first : ℕ) → first_slot bounds names name ≡ Some first → Starts name first
    starts_at name first e = by (position (bytes_eq name) names) refl e
      where
        by : (o : Option ℕ) → position (bytes_eq name) names ≡ o → option_map (λ n. slot_count bounds (take n names)) o ≡ Some first → Starts name first
        by None found e = absurd (cc (e))
        by (Some n) found e =
            let place = position-Some (bytes_eq name) names n [] found in
            record { at = n; below = place.0; is = (bytes_eq-Decides name (get_or names n [])).0 place.1; starts = cc (e) }

    pub span_within : (name : Symbol) (first : ℕ) → first_slot bounds names name ≡ Some first → first + product (bounds name) ≤ slot_count bounds names
    span_within name first e =
        let s = starts_at name first e in
        let part = before names s.at (length names) s.below (omega arith) in
        let all = ap (slot_count bounds) (take_all (length names) names (omega arith)) in
        let same = ap (λ name. product (bounds name)) s.is in
        let starts = s.starts in
        omega (arith, part, all, same, starts)

    sooner : (name other : Symbol) (first start : ℕ) (s : Starts name first) (r : Starts other start) → s.at < r.at → first + product (bounds name) ≤ start
    sooner name other first start s r lt =
        let below = r.below in
        let part = before names s.at r.at lt (omega (arith, below)) in
        let same = ap (λ name. product (bounds name)) s.is in
        let here = s.starts in
        let there = r.starts in
        omega (arith, part, same, here, there)

    pub spans_apart : (name other : Symbol) (first start : ℕ) → first_slot bounds names name ≡ Some first → first_slot bounds names other ≡ Some start
        → bytes_eq name other ≡ false → (first + product (bounds name) ≤ start) ⊎ (start + product (bounds other) ≤ first)
    spans_apart name other first start e f differ = by (starts_at name first e) (starts_at other start f)
      where
        by : Starts name first → Starts other start → (first + product (bounds name) ≤ start) ⊎ (start + product (bounds other) ≤ first)
        by s r = elim (cases_order s.at r.at) [
          | inl one ↦
              let here : name ≡ other = s.is ∙ ap (λ n. get_or names n []) one ∙ sym r.is in
              absurd (false≢true (sym differ ∙ (bytes_eq-Decides name other).1 here))
          | inr rest ↦ elim rest [ inl lt ↦ inl (sooner name other first start s r lt) | inr gt ↦ inr (sooner other name start first r s gt) ]
        ]
