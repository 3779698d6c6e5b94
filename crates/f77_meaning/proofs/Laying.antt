-- Slots laid out name by name: each name holds its own elements, in order.
use Rattle.f77_meaning.proofs.Common.{List, ℕ, ◌≡◌, refl, Some, true, ap, arith, ◌∙◌, None, false, [], sym, ◌∷◌, Option, length, ◌<◌, ◌+◌, option_map, map}
use Rattle.f77_meaning.proofs.Common.{get_or, length-append, take, list_any, flat_map, bytes_eq, Value, slot_count, first_slot, held_in, Cells, first_numbers}
use Rattle.f77_meaning.proofs.Common.{product, Symbol, values_of}
use Rattle.std.proofs.lemmas.List.Concat.{get_or-flat_map}
use Rattle.f77_meaning.proofs.Cells.{length-table, get_or-table}
use Rattle.f77_meaning.proofs.Places.{found, missed}
use Rattle.f77_meaning.proofs.Spans.{count_more, starts_at}
use Rattle.f77_meaning.proofs.Stored.{held_get, held_from, same_table}

module _ (bounds : Symbol → List ℕ) where
  module _ (names : List Symbol) (g : Symbol → ℕ → Option Value) where
    abbrev piece : Symbol → List (Option Value)
    piece n = map (g n) (first_numbers (product (bounds n)))

    laid_length : (list : List Symbol) → length (flat_map (λ n. map (g n) (first_numbers (product (bounds n)))) list) ≡ slot_count bounds list
    laid_length [] = refl
    laid_length (n ∷ list) =
        let both = length-append (piece n) (flat_map piece list) in
        let rest = laid_length list in
        omega (arith, both, length-table (g n) (product (bounds n)), rest, count_more bounds n list)

    pub laid_all : length (flat_map (λ n. map (g n) (first_numbers (product (bounds n)))) names) ≡ slot_count bounds names
    laid_all = laid_length names

    pub laid_out : (name : Symbol) (first k : ℕ) → first_slot bounds names name ≡ Some first → k < product (bounds name)
        → held_in (flat_map (λ n. map (g n) (first_numbers (product (bounds n)))) names) (first + k) ≡ g name k
    laid_out name first k start below =
        let s = starts_at bounds names name first start in
        let here : length (flat_map piece (take s.at names)) + k ≡ first + k = ap (λ n. n + k) (laid_length (take s.at names) ∙ s.starts) in
        let long : length (piece (get_or names s.at [])) ≡ product (bounds name) = ap (λ n. length (piece n)) (sym s.is) ∙ length-table (g name) (product (bounds name)) in
        held_get (flat_map piece names) (first + k)
        ∙ ap (λ j. get_or (flat_map piece names) j None) (sym here)
        ∙ get_or-flat_map piece names s.at k [] None s.below (omega (arith, long, below))
        ∙ ap (λ n. get_or (piece n) k None) (sym s.is)
        ∙ get_or-table (g name) (product (bounds name)) k None below

    pub laid_values : (name : Symbol) → list_any (bytes_eq name) names ≡ true
        → values_of bounds names (flat_map (λ n. map (g n) (first_numbers (product (bounds n)))) names) name ≡ map (g name) (first_numbers (product (bounds name)))
    laid_values name among =
        let place = found (bytes_eq name) names among in
        let start : first_slot bounds names name ≡ Some (slot_count bounds (take place.0 names)) = ap (option_map (λ n. slot_count bounds (take n names))) place.1 in
        same_table (held_from (flat_map piece names) (first_slot bounds names name)) (g name) (product (bounds name))
        (λ k below. ap (λ o. held_from (flat_map piece names) o k) start ∙ laid_out name (slot_count bounds (take place.0 names)) k start below)

  -- a name that has no slots holds nothing
  pub unlaid_values : (names : List Symbol) (name : Symbol) → list_any (bytes_eq name) names ≡ false → (cells : Cells)
      → values_of bounds names cells name ≡ map (λ k. None) (first_numbers (product (bounds name)))
  unlaid_values names name apart cells =
      let none : first_slot bounds names name ≡ None = ap (option_map (λ n. slot_count bounds (take n names))) (missed (bytes_eq name) names apart) in
      same_table (held_from cells (first_slot bounds names name)) (λ k. None) (product (bounds name)) (λ k below. ap (λ o. held_from cells o k) none)
