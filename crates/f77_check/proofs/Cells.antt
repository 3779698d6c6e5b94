-- Values laid out by the slots of names, and one of them given to its slot.
use Rattle.f77_check.proofs.Common.{◌≡◌, ap, ◌∙◌, sym, map, subst, List, refl, ℕ, [], arith, length, ◌∷◌, Some, ◌++◌, take, ◌+◌, true, ◌<◌, get_or, ◌≤◌, Bool}
use Rattle.f77_check.proofs.Common.{◌-◌, false, suc, zero, ◌==◌, option_map, replicate, if◌then◌else◌, ◌&&◌, ◌||◌, eqb-true, length-set, slice_set}
use Rattle.f77_check.proofs.Common.{get_or-set_other, get_or-set_same, nat_tests, replicate-append-replicate, set-append_left, set-append_right, same_Some}
use Rattle.f77_check.proofs.Common.{slice_get-get_or, list_any, flat_map, position_or_len, bytes_eq, slot_count, first_slot, Cell, is_cell, table_more}
use Rattle.f77_check.proofs.Common.{get_or-table, length-table, table_from_each, found_there, Apart, or_false, same_symbol, symbol_symm, first_numbers, product}
use Rattle.f77_check.proofs.Common.{Symbol}
use Rattle.std.proofs.Common.{slice_get}
use Rattle.f77_check.proofs.SlotCounts.{count_more}

module _ {X : Type 0} where
  -- one element has another value
  abbrev pub with_cell : (Symbol → ℕ → X) → Cell → X → Symbol → ℕ → X
  with_cell f cell v name k = if is_cell (name, k) cell then v else f name k

  -- an element of two lists, one behind the other
  get_left : (xs ys : List X) (i : ℕ) → i < length xs → slice_get (xs ++ ys) i ≡ slice_get xs i
  get_left [] ys i h = absurd (omega arith)
  get_left (x ∷ xs) ys zero h = refl
  get_left (x ∷ xs) ys (suc i) h = get_left xs ys i (omega arith)

  get_behind : (xs ys : List X) (i : ℕ) → slice_get (xs ++ ys) (length xs + i) ≡ slice_get ys i
  get_behind [] ys i = let e : 0 + i ≡ i = omega arith in ap (slice_get ys) e
  get_behind (x ∷ xs) ys i = let e : suc (length xs) + i ≡ suc (length xs + i) = omega arith in ap (slice_get (x ∷ (xs ++ ys))) e ∙ get_behind xs ys i

  get_right : (xs ys : List X) (n i j : ℕ) → length xs ≡ n → i ≡ n + j → slice_get (xs ++ ys) i ≡ slice_get ys j
  get_right xs ys n i j long e = let at : i ≡ length xs + j = omega arith in ap (slice_get (xs ++ ys)) at ∙ get_behind xs ys j

  get_table : (f : ℕ → X) (n k : ℕ) → k < n → slice_get (map f (first_numbers n)) k ≡ Some (f k)
  get_table f n k h =
      let below : k < length (map f (first_numbers n)) = omega (arith, length-table f n) in
      slice_get-get_or (map f (first_numbers n)) k (f k) below ∙ ap Some (get_or-table f n k (f k) h)

  set_table : (f : ℕ → X) (n k : ℕ) (v : X) → k < n → slice_set (map f (first_numbers n)) k v ≡ map (λ i. if i == k then v else f i) (first_numbers n)
  set_table f n k v h =
      table_from_each (λ i. if i == k then v else f i) n (slice_set (map f (first_numbers n)) k v) v
      (length-set (map f (first_numbers n)) k v ∙ length-table f n)
      (λ i below. each i below (i == k) refl)
    where
      each : (i : ℕ) → i < n → (b : Bool) → (i == k) ≡ b → get_or (slice_set (map f (first_numbers n)) k v) i v ≡ (if i == k then v else f i)
      each i below true e =
          let same : i ≡ k = eqb-true i k e in
          let within : k < length (map f (first_numbers n)) = omega (arith, length-table f n) in
          rw e (ap (λ j. get_or (slice_set (map f (first_numbers n)) k v) j v) same ∙ get_or-set_same (map f (first_numbers n)) k v v within)
      each i below false e =
          let other : i ≡ k → ⊥ = λ s. grind (arith, nat_tests) in
          rw e (get_or-set_other (map f (first_numbers n)) k i v v other ∙ get_or-table f n i v below)

module _ (bounds : Symbol → List ℕ) where
  -- the slots before those of a name
  abbrev pub slot_from : List Symbol → Symbol → ℕ
  slot_from [] name = 0
  slot_from (x ∷ names) name = if bytes_eq name x then 0 else product (bounds x) + slot_from names name

  counted : (names : List Symbol) (name : Symbol) → slot_count bounds (take (position_or_len (bytes_eq name) names) names) ≡ slot_from names name
  counted [] name = refl
  counted (x ∷ names) name = by (bytes_eq name x) refl (counted names name)
    where
      by : (b : Bool) → bytes_eq name x ≡ b → slot_count bounds (take (position_or_len (bytes_eq name) names) names) ≡ slot_from names name
          → slot_count bounds (take (position_or_len (bytes_eq name) (x ∷ names)) (x ∷ names)) ≡ slot_from (x ∷ names) name
      by true e rest = rw e refl
      by false e rest =
          let k = position_or_len (bytes_eq name) names in
          let next : 1 + k ≡ suc k = omega arith in
          rw e (ap (λ n. slot_count bounds (take n (x ∷ names))) next ∙ count_more bounds x (take k names) ∙ ap (λ n. product (bounds x) + n) rest)

  pub first_is : (names : List Symbol) (name : Symbol) → list_any (bytes_eq name) names ≡ true → first_slot bounds names name ≡ Some (slot_from names name)
  first_is names name among =
      ap (option_map (λ n. slot_count bounds (take n names))) (found_there (bytes_eq name) names among) ∙ ap Some (counted names name)

  -- the slots of a name are among all
  pub slots_within : (names : List Symbol) (name : Symbol) → list_any (bytes_eq name) names ≡ true → slot_from names name + product (bounds name) ≤ slot_count bounds names
  slots_within [] name among = absurd (cc (among))
  slots_within (x ∷ names) name among = by (bytes_eq name x) refl (slots_within names name)
    where
      by : (b : Bool) → bytes_eq name x ≡ b → (list_any (bytes_eq name) names ≡ true → slot_from names name + product (bounds name) ≤ slot_count bounds names)
          → slot_from (x ∷ names) name + product (bounds name) ≤ slot_count bounds (x ∷ names)
      by true e rest =
          let same = ap (λ q. product (bounds q)) (same_symbol name x e) in
          let whole = count_more bounds x names in
          rw e (omega (arith, same, whole))
      by false e rest =
          let within = rest (sym (ap (λ b. b || list_any (bytes_eq name) names) e) ∙ among) in
          let whole = count_more bounds x names in
          rw e (omega (arith, within, whole))

  pub slots_end : (names : List Symbol) (name : Symbol) (first : ℕ) → list_any (bytes_eq name) names ≡ true → first_slot bounds names name ≡ Some first
      → first + product (bounds name) ≤ slot_count bounds names
  slots_end names name first among is =
      let same : slot_from names name ≡ first = same_Some _ _ (sym (first_is names name among) ∙ is) in
      let within = slots_within names name among in
      omega (arith, same, within)

  module _ {X : Type 0} where
    -- what each element of the names has, name by name
    abbrev pub laid_out : List Symbol → (Symbol → ℕ → X) → List X
    laid_out names f = flat_map (λ name. map (f name) (first_numbers (product (bounds name)))) names

    pub get_laid : (names : List Symbol) (f : Symbol → ℕ → X) (name : Symbol) (k : ℕ) → list_any (bytes_eq name) names ≡ true → k < product (bounds name)
        → slice_get (laid_out names f) (slot_from names name + k) ≡ Some (f name k)
    get_laid [] f name k among below = absurd (cc (among))
    get_laid (x ∷ names) f name k among below = by (bytes_eq name x) refl (get_laid names f name k)
      where
        by : (b : Bool) → bytes_eq name x ≡ b → (list_any (bytes_eq name) names ≡ true → k < product (bounds name) → slice_get (laid_out names f) (slot_from names name + k) ≡ Some (f name k))
            → slice_get (laid_out (x ∷ names) f) (slot_from (x ∷ names) name + k) ≡ Some (f name k)
        by true e rest =
            let same : name ≡ x = same_symbol name x e in
            let within : k < product (bounds x) = subst (λ q. k < product (bounds q)) same below in
            let long : k < length (map (f x) (first_numbers (product (bounds x)))) = omega (arith, length-table (f x) (product (bounds x))) in
            let at : 0 + k ≡ k = omega arith in
            rw e (ap (slice_get (laid_out (x ∷ names) f)) at
            ∙ get_left (map (f x) (first_numbers (product (bounds x)))) (laid_out names f) k long
            ∙ get_table (f x) (product (bounds x)) k within
            ∙ ap (λ q. Some (f q k)) (sym same))
        by false e rest =
            let s = slot_from names name in
            rw e (get_right (map (f x) (first_numbers (product (bounds x)))) (laid_out names f) (product (bounds x)) ((product (bounds x) + s) + k) (s + k)
            (length-table (f x) (product (bounds x))) (omega arith)
            ∙ rest (sym (ap (λ b. b || list_any (bytes_eq name) names) e) ∙ among) below)

    -- the elements of another name
    own_kept : (f : Symbol → ℕ → X) (name : Symbol) (k : ℕ) (v : X) (x : Symbol) → bytes_eq x name ≡ false
        → map (with_cell f (name, k) v x) (first_numbers (product (bounds x))) ≡ map (f x) (first_numbers (product (bounds x)))
    own_kept f name k v x apart = ap (λ b. map (λ i. if b && i == k then v else f x i) (first_numbers (product (bounds x)))) apart

    laid_kept : (names : List Symbol) (f : Symbol → ℕ → X) (name : Symbol) (k : ℕ) (v : X) → list_any (bytes_eq name) names ≡ false
        → laid_out names (with_cell f (name, k) v) ≡ laid_out names f
    laid_kept [] f name k v none = refl
    laid_kept (x ∷ names) f name k v none =
        let parts = or_false (bytes_eq name x) (list_any (bytes_eq name) names) none in
        let own = own_kept f name k v x (symbol_symm x name ∙ parts.0) in
        let rest = laid_kept names f name k v parts.1 in
        λ i. own i ++ rest i

    pub set_laid : (names : List Symbol) → Apart names → (f : Symbol → ℕ → X) (name : Symbol) (k : ℕ) (v : X) → list_any (bytes_eq name) names ≡ true → k < product (bounds name)
        → slice_set (laid_out names f) (slot_from names name + k) v ≡ laid_out names (with_cell f (name, k) v)
    set_laid [] apart f name k v among below = absurd (cc (among))
    set_laid (x ∷ names) apart f name k v among below = by (bytes_eq name x) refl (set_laid names apart.1 f name k v)
      where
        by : (b : Bool) → bytes_eq name x ≡ b
            → (list_any (bytes_eq name) names ≡ true → k < product (bounds name) → slice_set (laid_out names f) (slot_from names name + k) v ≡ laid_out names (with_cell f (name, k) v))
            → slice_set (laid_out (x ∷ names) f) (slot_from (x ∷ names) name + k) v ≡ laid_out (x ∷ names) (with_cell f (name, k) v)
        by true e rest =
            let same : name ≡ x = same_symbol name x e in
            let n = product (bounds x) in
            let within : k < n = subst (λ q. k < product (bounds q)) same below in
            let long : k < length (map (f x) (first_numbers n)) = omega (arith, length-table (f x) n) in
            let at : 0 + k ≡ k = omega arith in
            let none : list_any (bytes_eq name) names ≡ false = subst (λ q. list_any (bytes_eq q) names ≡ false) (sym same) apart.0 in
            let own : slice_set (map (f x) (first_numbers n)) k v ≡ map (with_cell f (name, k) v x) (first_numbers n) =
            set_table (f x) n k v within ∙ sym (ap (λ b. map (λ i. if b && i == k then v else f x i) (first_numbers n)) (symbol_symm x name ∙ e)) in
            rw e (ap (λ i. slice_set (laid_out (x ∷ names) f) i v) at
            ∙ set-append_left (map (f x) (first_numbers n)) (laid_out names f) k v long
            ∙ (λ i. own i ++ sym (laid_kept names f name k v none) i))
        by false e rest =
            let n = product (bounds x) in
            let s = slot_from names name in
            let before : n ≤ (n + s) + k = omega arith in
            let at : ((n + s) + k) - n ≡ s + k = omega arith in
            let later = rest (sym (ap (λ b. b || list_any (bytes_eq name) names) e) ∙ among) below in
            let own = own_kept f name k v x (symbol_symm x name ∙ e) in
            rw e (set-append_right (map (f x) (first_numbers n)) (laid_out names f) n ((n + s) + k) v (length-table (f x) n) before
            ∙ ap (λ i. map (f x) (first_numbers n) ++ slice_set (laid_out names f) i v) at
            ∙ (λ i. sym own i ++ later i))

    -- a list with one value for each of n elements
    table_of : (v : X) (n : ℕ) → map (λ i. v) (first_numbers n) ≡ replicate n v
    table_of v zero = refl
    table_of v (suc n) =
        let next : n + 1 ≡ suc n = omega arith in
        ap (λ m. map (λ i. v) (first_numbers m)) (sym next) ∙ table_more (λ i. v) n ∙ ap (λ vs. vs ++ v ∷ []) (table_of v n) ∙ replicate-append-replicate n 1 v ∙ ap (λ m. replicate m v) next

    pub laid_constant : (names : List Symbol) (v : X) → laid_out names (λ name k. v) ≡ replicate (slot_count bounds names) v
    laid_constant [] v = refl
    laid_constant (x ∷ names) v =
        (λ i. table_of v (product (bounds x)) i ++ laid_constant names v i)
        ∙ replicate-append-replicate (product (bounds x)) (slot_count bounds names) v
        ∙ ap (λ n. replicate n v) (sym (count_more bounds x names))
