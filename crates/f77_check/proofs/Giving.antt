-- DATA gives each slot the initial value of its element: the first constant that a group gives it.
use Rattle.f77_check.proofs.Common.{◌≡◌, ap, ◌∙◌, sym, map, subst, List, refl, ℕ, [], arith, ◌∷◌, Some, ◌++◌, take, ◌+◌, true, ◌<◌, None, ◌≤◌, Bool, false, suc}
use Rattle.f77_check.proofs.Common.{zero, Option, drop, is_some, ◌==◌, append-nil, replicate, cond, if◌then◌else◌, append_assoc, eqb-true, not, slice_set, fold}
use Rattle.f77_check.proofs.Common.{and_parts, map-append, drop-map, find-append, list_any, flat_map, list_all, find, zip, option_and_then, option_map_or}
use Rattle.f77_check.proofs.Common.{option_or, bytes_eq, Cell, is_cell, cells, initial_values_of, give_groups, slots_of, give_run, give_values, give}
use Rattle.f77_check.proofs.Common.{give_group, is_free, Apart, same_symbol, first_numbers, product, groups_of, Symbol, bounds_of, LineFields, GroupFields}
use Rattle.f77_check.proofs.Common.{Constant, Value}
use Rattle.std.proofs.lemmas.Simd.{map-map}
use Rattle.f77_check.proofs.Cells.{slot_from, first_is, laid_out, with_cell, get_laid, set_laid}

abbrev pub Given : Type 0
Given = List (Cell × Constant)

-- the first constant that an element is given
abbrev pub found_in : Given → Symbol → ℕ → Option Constant
found_in given name k = option_and_then (λ one. Some one.1) (find (λ one. is_cell (name, k) one.0) given)

abbrev if_cell : Cell → Constant → Cell → Option Constant
if_cell cell constant other = if is_cell other cell then Some constant else None

-- one element more is given a constant
found_more : (before : Given) (cell : Cell) (constant : Constant) (name : Symbol) (k : ℕ)
    → found_in (before ++ (cell, constant) ∷ []) name k ≡ option_or (found_in before name k) (if_cell cell constant (name, k))
found_more before cell constant name k =
    ap (option_and_then (λ one. Some one.1)) (find-append (λ one. is_cell (name, k) one.0) before ((cell, constant) ∷ []))
    ∙ apart (find (λ one. is_cell (name, k) one.0) before) (is_cell (name, k) cell)
  where
    last : (b : Bool) → option_and_then (λ (one : Cell × Constant). Some one.1) (cond b (Some (cell, constant)) None) ≡ cond b (Some constant) None
    last true = refl
    last false = refl

    apart : (o : Option (Cell × Constant)) (b : Bool)
        → option_and_then (λ one. Some one.1) (option_or o (cond b (Some (cell, constant)) None)) ≡ option_or (option_and_then (λ one. Some one.1) o) (cond b (Some constant) None)
    apart None b = last b
    apart (Some one) b = refl

or_none : (o : Option Constant) → option_or o None ≡ o
or_none None = refl
or_none (Some c) = refl

same_cell : (f : Symbol → ℕ → Option Constant) (name q : Symbol) (k i : ℕ) → is_cell (q, i) (name, k) ≡ true → f q i ≡ f name k
same_cell f name q k i e =
    let parts = and_parts (bytes_eq q name) (i == k) e in
    let names = same_symbol q name parts.0 in
    let places = eqb-true i k parts.1 in
    λ j. f (names j) (places j)

-- where the element has no constant yet, it has this one now
newly_found : (before : Given) (name : Symbol) (k : ℕ) (constant : Constant) → found_in before name k ≡ None
    → with_cell (found_in before) (name, k) (Some constant) ≡ found_in (before ++ ((name, k), constant) ∷ [])
newly_found before name k constant none = λ j. λ q. λ i. each q i (is_cell (q, i) (name, k)) refl j
  where
    each : (q : Symbol) (i : ℕ) (b : Bool) → is_cell (q, i) (name, k) ≡ b
        → with_cell (found_in before) (name, k) (Some constant) q i ≡ found_in (before ++ ((name, k), constant) ∷ []) q i
    each q i true e =
        let free : found_in before q i ≡ None = same_cell (found_in before) name q k i e ∙ none in
        ap (λ b. if b then Some constant else found_in before q i) e
        ∙ sym (found_more before (name, k) constant q i ∙ (λ j. option_or (free j) (if e j then Some constant else None)))
    each q i false e =
        ap (λ b. if b then Some constant else found_in before q i) e
        ∙ sym (found_more before (name, k) constant q i ∙ ap (λ b. option_or (found_in before q i) (if b then Some constant else None)) e ∙ or_none (found_in before q i))

-- an element that has a constant keeps it
found_before : (before : Given) (name : Symbol) (k : ℕ) (constant old : Constant) → found_in before name k ≡ Some old
    → found_in before ≡ found_in (before ++ ((name, k), constant) ∷ [])
found_before before name k constant old some = λ j. λ q. λ i. each q i (is_cell (q, i) (name, k)) refl j
  where
    each : (q : Symbol) (i : ℕ) (b : Bool) → is_cell (q, i) (name, k) ≡ b → found_in before q i ≡ found_in (before ++ ((name, k), constant) ∷ []) q i
    each q i true e =
        let held : found_in before q i ≡ Some old = same_cell (found_in before) name q k i e ∙ some in
        held ∙ sym (found_more before (name, k) constant q i ∙ ap (λ o. option_or o (if_cell (name, k) constant (q, i))) held)
    each q i false e =
        sym (found_more before (name, k) constant q i ∙ ap (λ b. option_or (found_in before q i) (if b then Some constant else None)) e ∙ or_none (found_in before q i))

module _ (bounds : Symbol → List ℕ) (names : List Symbol) where
  abbrev pub slot_at : Cell → ℕ
  slot_at cell = slot_from bounds names cell.0 + cell.1

  abbrev give_cell : List (Option Constant) → Cell × Constant → List (Option Constant)
  give_cell held one = give one.1 held (slot_at one.0)

  -- elements of the names
  abbrev pub AreCells : List Cell → Type 0
  AreCells [] = Unit {0}
  AreCells (cell ∷ more) = (list_any (bytes_eq cell.0) names ≡ true) × (cell.1 < product (bounds cell.0)) × AreCells more

  module _ (apart : Apart names) where
    given_cell : (before : Given) (name : Symbol) (k : ℕ) (constant : Constant) → list_any (bytes_eq name) names ≡ true → k < product (bounds name)
        → give_cell (laid_out bounds names (found_in before)) ((name, k), constant) ≡ laid_out bounds names (found_in (before ++ ((name, k), constant) ∷ []))
    given_cell before name k constant among below = by (found_in before name k) refl
      where
        free : (o : Option Constant) → found_in before name k ≡ o → is_free (laid_out bounds names (found_in before)) (slot_from bounds names name + k) ≡ not (is_some o)
        free o e =
            ap (λ cell. option_map_or (λ held. not (is_some held)) cell false) (get_laid bounds names (found_in before) name k among below) ∙ ap (λ held. not (is_some held)) e

        by : (o : Option Constant) → found_in before name k ≡ o
            → give_cell (laid_out bounds names (found_in before)) ((name, k), constant) ≡ laid_out bounds names (found_in (before ++ ((name, k), constant) ∷ []))
        by None e =
            ap (λ b. if b then slice_set (laid_out bounds names (found_in before)) (slot_from bounds names name + k) (Some constant) else laid_out bounds names (found_in before)) (free None e)
            ∙ set_laid bounds names apart (found_in before) name k (Some constant) among below
            ∙ ap (laid_out bounds names) (newly_found before name k constant e)
        by (Some old) e =
            ap (λ b. if b then slice_set (laid_out bounds names (found_in before)) (slot_from bounds names name + k) (Some constant) else laid_out bounds names (found_in before)) (free (Some old) e)
            ∙ ap (laid_out bounds names) (found_before before name k constant old e)

    given_cells : (before given : Given) → AreCells (map (λ one. one.0) given)
        → fold give_cell (laid_out bounds names (found_in before)) given ≡ laid_out bounds names (found_in (before ++ given))
    given_cells before [] are = ap (λ all. laid_out bounds names (found_in all)) (sym (append-nil before))
    given_cells before (one ∷ given) are =
        ap (λ held. fold give_cell held given) (given_cell before one.0.0 one.0.1 one.1 are.0 are.1)
        ∙ given_cells (before ++ one ∷ []) given are.2
        ∙ ap (λ all. laid_out bounds names (found_in all)) (append_assoc before (one ∷ []) given)

  -- the next slots are given this many copies
  give_copies : (times : ℕ) (constant : Constant) (list : List Cell) (held : List (Option Constant)) (rest : List Constant)
      → fold give_cell held (zip list (replicate times constant ++ rest))
      ≡ fold give_cell (give_run constant held (take times (map slot_at list))) (zip (drop times list) rest)
  give_copies zero constant list held rest = refl
  give_copies (suc times) constant [] held rest = refl
  give_copies (suc times) constant (cell ∷ list) held rest = give_copies times constant list (give constant held (slot_at cell)) rest

  no_pairs : (list : List Cell) → zip list (flat_map (λ (v : Value). replicate v.times v.constant) []) ≡ []
  no_pairs [] = refl
  no_pairs (cell ∷ list) = refl

  give_each : (values : List Value) (list : List Cell) (held : List (Option Constant))
      → give_values held (map slot_at list) values ≡ fold give_cell held (zip list (flat_map (λ v. replicate v.times v.constant) values))
  give_each [] list held = ap (fold give_cell held) (sym (no_pairs list))
  give_each (v ∷ values) list held =
      ap (λ slots. give_values (give_run v.constant held (take v.times (map slot_at list))) slots values) (drop-map slot_at v.times list)
      ∙ give_each values (drop v.times list) (give_run v.constant held (take v.times (map slot_at list)))
      ∙ sym (give_copies v.times v.constant list held (flat_map (λ (w : Value). replicate w.times w.constant) values))

  AreCells-append : (xs ys : List Cell) → AreCells xs → AreCells ys → AreCells (xs ++ ys)
  AreCells-append [] ys are also = also
  AreCells-append (x ∷ xs) ys are also = (are.0, are.1, AreCells-append xs ys are.2 also)

  own_cells : (name : Symbol) (n : ℕ) → list_any (bytes_eq name) names ≡ true → n ≤ product (bounds name) → AreCells (map (λ k. (name, k)) (first_numbers n))
  own_cells name zero among within = tt
  own_cells name (suc n) among within =
      subst AreCells (sym (map-append (λ k. (name, k)) (first_numbers n) (n ∷ [])))
      (AreCells-append (map (λ k. (name, k)) (first_numbers n)) ((name, n) ∷ []) (own_cells name n among (omega arith)) (among, omega arith, tt))

  paired_cells : (list : List Cell) (constants : List Constant) → AreCells list → AreCells (map (λ one. one.0) (zip list constants))
  paired_cells [] constants are = tt
  paired_cells (cell ∷ list) [] are = tt
  paired_cells (cell ∷ list) (constant ∷ constants) are = (are.0, are.1, paired_cells list constants are.2)

  own_slots : (name : Symbol) → list_any (bytes_eq name) names ≡ true
      → slots_of bounds names name ≡ map slot_at (map (λ k. (name, k)) (first_numbers (product (bounds name))))
  own_slots name among =
      ap (λ o. option_map_or (λ first. map (λ k. first + k) (first_numbers (product (bounds name)))) o []) (first_is bounds names name among)
      ∙ sym (map-map slot_at (λ k. (name, k)) (first_numbers (product (bounds name))))

-- the names of a program
module _ (program : List LineFields) (names : List Symbol) where
  abbrev pub are_named : List Symbol → Bool
  are_named list = list_all (λ name. list_any (bytes_eq name) names) list

  cells_slots : (list : List Symbol) → are_named list ≡ true → flat_map (slots_of (bounds_of program) names) list ≡ map (slot_at (bounds_of program) names) (cells program list)
  cells_slots [] named = refl
  cells_slots (name ∷ list) named =
      let parts = and_parts (list_any (bytes_eq name) names) (are_named list) named in
      (λ i. own_slots (bounds_of program) names name parts.0 i ++ cells_slots list parts.1 i)
      ∙ sym (map-append (slot_at (bounds_of program) names) (map (λ k. (name, k)) (first_numbers (product (bounds_of program name)))) (cells program list))

  cells_named : (list : List Symbol) → are_named list ≡ true → AreCells (bounds_of program) names (cells program list)
  cells_named [] named = tt
  cells_named (name ∷ list) named =
      let parts = and_parts (list_any (bytes_eq name) names) (are_named list) named in
      AreCells-append (bounds_of program) names (map (λ k. (name, k)) (first_numbers (product (bounds_of program name)))) (cells program list)
      (own_cells (bounds_of program) names name (product (bounds_of program name)) parts.0 (omega arith)) (cells_named list parts.1)

  module _ (apart : Apart names) where
    abbrev laid : Given → List (Option Constant)
    laid given = laid_out (bounds_of program) names (found_in given)

    group_given : (before : Given) (g : GroupFields) → are_named g.names ≡ true
        → give_group (bounds_of program) names (laid_out (bounds_of program) names (found_in before)) g ≡ laid_out (bounds_of program) names (found_in (before ++ initial_values_of program g))
    group_given before g named =
        ap (λ slots. give_values (laid before) slots g.values) (cells_slots g.names named)
        ∙ give_each (bounds_of program) names g.values (cells program g.names) (laid before)
        ∙ given_cells (bounds_of program) names apart before (initial_values_of program g)
        (paired_cells (bounds_of program) names (cells program g.names) (flat_map (λ (v : Value). replicate v.times v.constant) g.values) (cells_named g.names named))

    pub groups_given : (before : Given) (gs : List GroupFields) → list_all (λ g. are_named g.names) gs ≡ true
        → give_groups (bounds_of program) names (laid_out (bounds_of program) names (found_in before)) gs
        ≡ laid_out (bounds_of program) names (found_in (before ++ flat_map (initial_values_of program) gs))
    groups_given before [] named = ap laid (sym (append-nil before))
    groups_given before (g ∷ gs) named =
        let parts = and_parts (are_named g.names) (list_all (λ g. are_named g.names) gs) named in
        ap (λ held. give_groups (bounds_of program) names held gs) (group_given before g parts.0)
        ∙ groups_given (before ++ initial_values_of program g) gs parts.1
        ∙ ap laid (append_assoc before (initial_values_of program g) (flat_map (initial_values_of program) gs))

-- what these lines of a program give
abbrev pub initial_values_in : List LineFields → List LineFields → Given
initial_values_in program lines = flat_map (λ line. flat_map (initial_values_of program) (groups_of line.stmt)) lines
