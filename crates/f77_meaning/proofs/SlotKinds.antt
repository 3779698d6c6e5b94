-- Slots have the kinds of the names that they belong to.
use Rattle.f77_meaning.proofs.Common.{List, ℕ, ◌≡◌, refl, Some, ap, arith, ◌∙◌, [], sym, ◌∷◌, length, ◌<◌, ◌+◌, slice_get, get_or, length-append, take}
use Rattle.f77_meaning.proofs.Common.{replicate, get_or-replicate, length-replicate, slice_get-get_or, slot_count, first_slot, slot_kinds, product, Symbol}
use Rattle.f77_meaning.proofs.Common.{Kind}
use Rattle.std.proofs.lemmas.List.Concat.{get_or-flat_map}
use Rattle.f77_meaning.proofs.Spans.{count_more, starts_at, span_within}

module _ (kinds : Symbol → Kind) (bounds : Symbol → List ℕ) where
  -- the kinds of the slots of a name
  abbrev own : Symbol → List Kind
  own name = replicate (product (bounds name)) (kinds name)

  -- there are as many kinds as slots
  pub kinds_count : (names : List Symbol) → length (slot_kinds kinds bounds names) ≡ slot_count bounds names
  kinds_count [] = refl
  kinds_count (name ∷ names) =
      length-append (own name) (slot_kinds kinds bounds names)
      ∙ ap (λ n. n + length (slot_kinds kinds bounds names)) (length-replicate (product (bounds name)) (kinds name))
      ∙ ap (λ n. product (bounds name) + n) (kinds_count names)
      ∙ sym (count_more bounds name names)

  -- the slot of each element has the kind of the name
  pub kind_read : (names : List Symbol) (name : Symbol) (first k : ℕ) → first_slot bounds names name ≡ Some first → k < product (bounds name)
      → slice_get (slot_kinds kinds bounds names) (first + k) ≡ Some (kinds name)
  kind_read names name first k start below =
      let s = starts_at bounds names name first start in
      let here : length (slot_kinds kinds bounds (take s.at names)) + k ≡ first + k = ap (λ n. n + k) (kinds_count (take s.at names) ∙ s.starts) in
      let long : length (own (get_or names s.at [])) ≡ product (bounds name)
      = ap (λ n. length (own n)) (sym s.is) ∙ length-replicate (product (bounds name)) (kinds name) in
      let count = kinds_count names in
      let within = span_within bounds names name first start in
      slice_get-get_or (slot_kinds kinds bounds names) (first + k) (kinds name) (omega (arith, count, within, below))
      ∙ ap Some
      (ap (λ j. get_or (slot_kinds kinds bounds names) j (kinds name)) (sym here)
      ∙ get_or-flat_map own names s.at k [] (kinds name) s.below (omega (arith, long, below))
      ∙ ap (λ n. get_or (own n) k (kinds name)) (sym s.is)
      ∙ get_or-replicate (product (bounds name)) k (kinds name) (kinds name) below)
