-- The slots of a list of names, counted name by name.
use Rattle.f77_check.proofs.Common.{◌≡◌, ap, ◌∙◌, sym, map, List, refl, ℕ, [], arith, length, ◌∷◌, Some, ◌++◌, take, ◌+◌, true, ◌<◌, None, get_or, ◌≤◌, Bool}
use Rattle.f77_check.proofs.Common.{◌-◌, false, suc, zero, drop, is_some, option_map, cond, filter, length-append, nat_lt, position, take_all, add-one}
use Rattle.f77_check.proofs.Common.{length-drop, take-append-drop, nat_tests, position_or_len, sum, slot_count, most_slots, table_more, get_or-table}
use Rattle.f77_check.proofs.Common.{length-table, first_numbers, product, Symbol, bounds_of, some_items, IsStock, LineFields}
use Rattle.f77_legal.proofs.Sizes.{sum_more}

-- the next name of a list from the place k on
record Next (names : List Symbol) (k : ℕ) (name : Symbol) (left : List Symbol) : Type 0 where
  below : k < length names
  behind : drop (suc k) names ≡ left
  taken : take (suc k) names ≡ take k names ++ name ∷ []

next_is : (names : List Symbol) (k : ℕ) (name : Symbol) (left : List Symbol) → drop k names ≡ name ∷ left → Next names k name left
next_is [] zero name left e = absurd (cc (e))
next_is [] (suc k) name left e = absurd (cc (e))
next_is (x ∷ xs) zero name left e =
    let same : x ≡ name = cc (e) in
    let rest : xs ≡ left = cc (e) in
    record { below = omega arith; behind = rest; taken = ap (λ z. z ∷ []) same }
next_is (x ∷ xs) (suc k) name left e =
    let later = next_is xs k name left e in
    record { below = omega (arith, later.below); behind = later.behind; taken = ap (λ z. x ∷ z) later.taken }

-- a place that is found is one of the list
place_within : (test : Symbol → Bool) (names : List Symbol) (n : ℕ) → position test names ≡ Some n → n < length names
place_within test names n found = by (nat_lt (position_or_len test names) (length names)) refl
  where
    by : (b : Bool) → nat_lt (position_or_len test names) (length names) ≡ b → n < length names
    by true e =
        let whole : position test names ≡ Some (position_or_len test names) = ap (λ b. cond b (Some (position_or_len test names)) None) e in
        let same : position_or_len test names ≡ n = cc (whole, found) in
        grind (arith, nat_tests)
    by false e =
        let whole : position test names ≡ None = ap (λ b. cond b (Some (position_or_len test names)) None) e in
        absurd (cc (whole, found))

module _ (bounds : Symbol → List ℕ) where
  pub count_more : (name : Symbol) (names : List Symbol) → slot_count bounds (name ∷ names) ≡ product (bounds name) + slot_count bounds names
  count_more name names = sum_more (product (bounds name)) (map (λ name. product (bounds name)) names)

  -- the slots of two lists in a row
  count_append : (xs ys : List Symbol) → slot_count bounds (xs ++ ys) ≡ slot_count bounds xs + slot_count bounds ys
  count_append [] ys = omega arith
  count_append (x ∷ xs) ys =
      let whole = count_more x (xs ++ ys) in
      let front = count_more x xs in
      let rest = count_append xs ys in
      omega (arith, whole, front, rest)

  -- what a count has made of the names before those that are left
  pub record IsCounted (names : List Symbol) (first : List ℕ) (count : ℕ) (rest : List Symbol) : Type 0 where
    pub left : rest ≡ drop (length first) names
    pub within : length first ≤ length names
    pub starts : first ≡ map (λ n. slot_count bounds (take n names)) (first_numbers (length first))
    pub total : count ≡ slot_count bounds (take (length first) names)

  module _ (names : List Symbol) (first : List ℕ) (count : ℕ) (rest : List Symbol) (is : IsCounted names first count rest) where
    starts_more : map (λ n. slot_count bounds (take n names)) (first_numbers (suc (length first))) ≡ first ++ count ∷ []
    starts_more =
        ap (λ k. map (λ n. slot_count bounds (take n names)) (first_numbers k)) (sym (add-one (length first)))
        ∙ table_more (λ n. slot_count bounds (take n names)) (length first)
        ∙ (λ i. sym is.starts i ++ (sym is.total i ∷ []))

    module _ (name : Symbol) (left : List Symbol) (next : rest ≡ name ∷ left) where
      after : Next names (length first) name left
      after = next_is names (length first) name left (sym is.left ∙ next)

      grown : (size : ℕ) → size ≡ product (bounds name) → count + size ≡ slot_count bounds (take (suc (length first)) names)
      grown size e =
          let one : slot_count bounds (name ∷ []) ≡ product (bounds name) + 0 = count_more name [] in
          let both = count_append (take (length first) names) (name ∷ []) in
          let more : slot_count bounds (take (suc (length first)) names) ≡ slot_count bounds (take (length first) names ++ name ∷ []) = ap (slot_count bounds) after.taken in
          let total = is.total in
          omega (arith, more, both, one, e, total)

      -- no part is more than the whole
      pub part_within : count + product (bounds name) ≤ slot_count bounds names
      part_within =
          let whole = ap (slot_count bounds) (take-append-drop (suc (length first)) names) in
          let both = count_append (take (suc (length first)) names) (drop (suc (length first)) names) in
          let part = grown (product (bounds name)) refl in
          omega (arith, whole, both, part)

      pub counted_more : (size : ℕ) → size ≡ product (bounds name) → IsCounted names (first ++ count ∷ []) (count + size) left
      counted_more size e =
          let longer : length (first ++ count ∷ []) ≡ suc (length first) = length-append first (count ∷ []) ∙ add-one (length first) in
          let below = after.below in
          record {
            left = rw longer (sym after.behind);
            within = rw longer (omega (arith, below));
            starts = rw longer (sym starts_more);
            total = rw longer (grown size e);
          }

    -- no name is left
    pub counted_all : rest ≡ [] → (first ≡ map (λ n. slot_count bounds (take n names)) (first_numbers (length names))) × (count ≡ slot_count bounds names)
    counted_all none =
        let long : length (drop (length first) names) ≡ length names - length first = length-drop (length first) names in
        let left : length (drop (length first) names) ≡ 0 = ap length (sym is.left ∙ none) in
        let within = is.within in
        let all : length first ≡ length names = omega (arith, long, left, within) in (
          is.starts ∙ ap (λ k. map (λ n. slot_count bounds (take n names)) (first_numbers k)) all,
          is.total ∙ ap (slot_count bounds) (take_all (length first) names (omega (arith, all))),
        )

  -- where the table has the place of a name
  pub start_read : (names : List Symbol) (first : List ℕ) (test : Symbol → Bool) (n start : ℕ)
      → first ≡ map (λ n. slot_count bounds (take n names)) (first_numbers (length names)) → position test names ≡ Some n → start ≡ get_or first n start
      → option_map (λ n. slot_count bounds (take n names)) (position test names) ≡ Some start
  start_read names first test n start is found read =
      ap (option_map (λ n. slot_count bounds (take n names))) found
      ∙ ap Some (sym (read ∙ ap (λ starts. get_or starts n start) is ∙ get_or-table (λ n. slot_count bounds (take n names)) (length names) n start (place_within test names n found)))

  pub start_within : (names : List Symbol) (first : List ℕ) (test : Symbol → Bool) (n : ℕ)
      → first ≡ map (λ n. slot_count bounds (take n names)) (first_numbers (length names)) → position test names ≡ Some n → n < length first
  start_within names first test n is found =
      let long = ap length is ∙ length-table (λ n. slot_count bounds (take n names)) (length names) in
      let below = place_within test names n found in
      omega (arith, long, below)

-- a variable has one slot
module _ (bounds : Symbol → List ℕ) where
  abbrev has_bounds : Symbol → Bool
  has_bounds name = is_some (some_items (bounds name))

  one_slot : (xs : List ℕ) → is_some (some_items xs) ≡ false → product xs ≡ 1
  one_slot [] e = refl
  one_slot (x ∷ xs) e = absurd (cc (e))

  slots_of_arrays : (names : List Symbol) → slot_count bounds names ≤ length names + sum (map (λ name. product (bounds name)) (filter has_bounds names))
  slots_of_arrays [] = omega arith
  slots_of_arrays (name ∷ names) = by (has_bounds name) refl (slots_of_arrays names)
    where
      by : (b : Bool) → has_bounds name ≡ b → slot_count bounds names ≤ length names + sum (map (λ name. product (bounds name)) (filter has_bounds names))
          → slot_count bounds (name ∷ names) ≤ length (name ∷ names) + sum (map (λ name. product (bounds name)) (filter has_bounds (name ∷ names)))
      by true t rest =
          let whole = count_more bounds name names in
          let more = sum_more (product (bounds name)) (map (λ name. product (bounds name)) (filter has_bounds names)) in
          rw t (omega (arith, whole, more, rest))
      by false t rest =
          let whole = count_more bounds name names in
          let one = one_slot (bounds name) t in
          rw t (omega (arith, whole, one, rest))

-- names that a program may have, within the limits
pub stock_slots : (names : List Symbol) (program : List LineFields) → IsStock names program → slot_count (bounds_of program) names ≤ most_slots
stock_slots names program stock =
    let within = slots_of_arrays (bounds_of program) names in
    omega (arith, within, stock.few, stock.small)
