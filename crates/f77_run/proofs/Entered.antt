-- Values put into the registers of slots, and compared with what these show.
use Rattle.f77_run.proofs.Common.{◌≡◌, length, sym, ◌∙◌, ap, subst, List, arith, refl, ◌<◌, ℕ, Some, true, [], map, ◌∷◌, ◌++◌, None, ◌≤◌, ℤ, ◌+◌, Bool, drop}
use Rattle.f77_run.proofs.Common.{Option, slice_get, suc, get_or, take, zero, slice_set, length-set, take_all, and_parts, and_from, take_more, drop_all}
use Rattle.f77_run.proofs.Common.{drop_more, get_or-map, map-append, set-append_left, same_Some, slice_get_within, slice_get-get_or, get_or_from_slice_get}
use Rattle.f77_run.proofs.Common.{list_all, zip, coded, is_fitting, Value, held_in, read_as, Cells, is_held, decoded, decoded_at, first_numbers, values_in}
use Rattle.f77_run.proofs.Common.{all_filled, filled, span, Arg, loaded, AreLoaded, values_fit, shown_cells, shown_as, Kind}
use Rattle.f77_meaning.proofs.Cells.{get_or-table}
use Rattle.f77_run.proofs.Loaded.{loaded_count, shown_at}

-- a member put in the place of another keeps what holds of each
set_keeps : {X : Type 0} (test : X → Bool) (xs : List X) (k : ℕ) (x : X) → test x ≡ true → list_all test xs ≡ true → list_all test (slice_set xs k x) ≡ true
set_keeps test [] k x is all = refl
set_keeps test (y ∷ xs) zero x is all = and_from (test x) (list_all test xs) is (and_parts (test y) (list_all test xs) all).1
set_keeps test (y ∷ xs) (suc k) x is all =
    let parts = and_parts (test y) (list_all test xs) all in
    and_from (test y) (list_all test (slice_set xs k x)) parts.0 (set_keeps test xs k x is parts.1)

module _ (kind : Kind) (cell : Option Value) where
  -- what is loaded where one slot is changed
  loaded_set : (kinds : List Kind) (cells : Cells) (k : ℕ) → length cells ≡ length kinds → slice_get kinds k ≡ Some kind
      → loaded kinds (slice_set cells k cell) ≡ slice_set (loaded kinds cells) k (coded (read_as kind cell))
  loaded_set [] cells k long at = absurd (cc (at))
  loaded_set (own ∷ kinds) [] k long at = absurd (omega (arith, long))
  loaded_set (own ∷ kinds) (x ∷ cells) zero long at = ap (λ kind. coded (read_as kind cell) ∷ loaded kinds cells) (same_Some own kind at)
  loaded_set (own ∷ kinds) (x ∷ cells) (suc k) long at = ap (λ list. coded (read_as own x) ∷ list) (loaded_set kinds cells k (omega (arith, long)) at)

  -- the values of the slots stay in the range of INTEGER
  fitting_set : (kinds : List Kind) (cells : Cells) (k : ℕ) → length cells ≡ length kinds → slice_get kinds k ≡ Some kind → is_fitting (read_as kind cell) ≡ true
      → values_fit kinds cells ≡ true → values_fit kinds (slice_set cells k cell) ≡ true
  fitting_set [] cells k long at fits all = absurd (cc (at))
  fitting_set (own ∷ kinds) [] k long at fits all = absurd (omega (arith, long))
  fitting_set (own ∷ kinds) (x ∷ cells) zero long at fits all =
      and_from (is_fitting (read_as own cell)) (values_fit kinds cells) (ap (λ kind. is_fitting (read_as kind cell)) (same_Some own kind at) ∙ fits)
      (and_parts (is_fitting (read_as own x)) (values_fit kinds cells) all).1
  fitting_set (own ∷ kinds) (x ∷ cells) (suc k) long at fits all =
      let parts = and_parts (is_fitting (read_as own x)) (values_fit kinds cells) all in
      and_from (is_fitting (read_as own x)) (values_fit kinds (slice_set cells k cell)) parts.0 (fitting_set kinds cells k (omega (arith, long)) at fits parts.1)

  -- a slot is changed with its register
  pub slot_put : (kinds : List Kind) (cells : Cells) (constants registers : List ℤ) (k : ℕ) (z : ℤ) → k < length kinds → slice_get kinds k ≡ Some kind
      → z ≡ coded (read_as kind cell) → is_held z ≡ true → is_fitting (read_as kind cell) ≡ true → AreLoaded kinds cells constants registers
      → AreLoaded kinds (slice_set cells k cell) constants (slice_set registers k z)
  slot_put kinds cells constants registers k z below at is held fits was =
      let count = loaded_count kinds cells was.count in
      record {
        count = length-set cells k cell ∙ was.count;
        items = ap (λ list. slice_set list k z) was.items
            ∙ set-append_left (loaded kinds cells) constants k z (omega (arith, below, count))
            ∙ ap (λ list. list ++ constants) (ap (slice_set (loaded kinds cells) k) is ∙ sym (loaded_set kinds cells k was.count at));
        held = set_keeps is_held registers k z held was.held;
        values = fitting_set kinds cells k was.count at fits was.values;
        numbers = was.numbers;
      }

-- registers with these slots loaded become registers with the changed slots loaded
abbrev pub IsChanged : List Kind → (Cells → Cells) → List ℤ → List ℤ → Type 0
IsChanged kinds change old new = (cells : Cells) (constants : List ℤ) → AreLoaded kinds cells constants old → AreLoaded kinds (change cells) constants new

-- the whole change is made if the rest of it, from here on, is made
abbrev pub IsBegun : List Kind → (Cells → Cells) → (Cells → Cells) → List ℤ → List ℤ → Type 0
IsBegun kinds whole rest old now = (last : List ℤ) → IsChanged kinds rest now last → IsChanged kinds whole old last

module _ (kinds : List Kind) (whole rest : Cells → Cells) (old now : List ℤ) where
  -- one more change is made
  more_changed : (one left : Cells → Cells) (new : List ℤ) → ((cells : Cells) → rest cells ≡ left (one cells)) → IsChanged kinds one now new
      → IsBegun kinds whole rest old now → IsBegun kinds whole left old new
  more_changed one left new same put begun last changed =
      begun last (λ cells constants was. subst (λ cells. AreLoaded kinds cells constants last) (sym (same cells)) (changed (one cells) constants (put cells constants was)))

  -- all is changed where nothing is left
  all_changed : ((cells : Cells) → rest cells ≡ cells) → IsBegun kinds whole rest old now → IsChanged kinds whole old now
  all_changed none begun = begun now (λ cells constants was. subst (λ cells. AreLoaded kinds cells constants now) (sym (none cells)) was)

-- values that are put one after another
module _ (xs : List Value) (kinds : List Kind) (first : ℕ) (old : List ℤ) where
  abbrev with_all : Cells → Cells
  with_all cells = filled cells first xs

  abbrev with_rest : ℕ → Cells → Cells
  with_rest k cells = filled cells (first + k) (drop k xs)

  abbrev with_one : ℕ → Value → Cells → Cells
  with_one k x cells = slice_set cells (first + k) (Some x)

  -- all are put where those from this one on are put too
  abbrev pub AreBegun : ℕ → List ℤ → Type 0
  AreBegun k now = IsBegun kinds with_all (with_rest k) old now

  -- one value more is put
  pub value_put : (k : ℕ) (x : Value) (now new : List ℤ) → slice_get xs k ≡ Some x → IsChanged kinds (with_one k x) now new → AreBegun k now
      → AreBegun (k + 1) new
  value_put k x now new at put begun = more_changed kinds with_all (with_rest k) old now (with_one k x) (with_rest (k + 1)) new same put begun
    where
      same : (cells : Cells) → with_rest k cells ≡ with_rest (k + 1) (with_one k x cells)
      same cells =
          let next : first + k + 1 ≡ first + (k + 1) = omega arith in
          ap (λ list. filled cells (first + k) list) (drop_more xs k x (slice_get_within xs k x at))
          ∙ ap (λ v. filled (slice_set cells (first + k) (Some v)) (first + k + 1) (drop (k + 1) xs)) (get_or_from_slice_get xs k x x at)
          ∙ ap (λ n. filled (with_one k x cells) n (drop (k + 1) xs)) next

  -- no value is left
  pub values_put : (k : ℕ) (now : List ℤ) → length xs ≤ k → AreBegun k now → IsChanged kinds with_all old now
  values_put k now past begun =
      all_changed kinds with_all (with_rest k) old now (λ cells. ap (λ list. filled cells (first + k) list) (drop_all k xs past)) begun

-- arguments that are put one after another
module _ (dummies : List ℕ) (arguments : List Arg) (kinds : List Kind) (old : List ℤ) where
  abbrev with_arguments : Cells → Cells
  with_arguments cells = all_filled cells (zip dummies arguments)

  abbrev with_others : ℕ → Cells → Cells
  with_others i cells = all_filled cells (zip (drop i dummies) (drop i arguments))

  -- all are put where those from this one on are put too
  abbrev pub ArePassed : ℕ → List ℤ → Type 0
  ArePassed i now = IsBegun kinds with_arguments (with_others i) old now

  -- one argument more is put
  pub argument_put : (i first : ℕ) (argument : Arg) (now new : List ℤ)
      → zip (drop i dummies) (drop i arguments) ≡ (first, argument) ∷ zip (drop (i + 1) dummies) (drop (i + 1) arguments)
      → IsChanged kinds (λ cells. filled cells first (values_in argument)) now new → ArePassed i now → ArePassed (i + 1) new
  argument_put i first argument now new step put begun =
      more_changed kinds with_arguments (with_others i) old now (λ cells. filled cells first (values_in argument)) (with_others (i + 1)) new
      (λ cells. ap (all_filled cells) step) put begun

  -- no argument is left
  pub arguments_put : (i : ℕ) (now : List ℤ) → zip (drop i dummies) (drop i arguments) ≡ [] → ArePassed i now → IsChanged kinds with_arguments old now
  arguments_put i now none begun = all_changed kinds with_arguments (with_others i) old now (λ cells. ap (all_filled cells) none) begun

-- a slot that is shown has the value that its register stands for, by its kind
pub slot_shown : (kinds : List Kind) (registers : List ℤ) (k : ℕ) (d : Kind) (e : ℤ) → length kinds ≤ length registers → k < length kinds
    → held_in (shown_cells kinds registers) k ≡ shown_as (get_or kinds k d) (decoded (get_or registers k e))
slot_shown kinds registers k d e room below =
    let at : slice_get registers k ≡ Some (get_or registers k e) = slice_get-get_or registers k e (omega (arith, room, below)) in
    shown_at kinds registers room k (get_or kinds k d) (slice_get-get_or kinds k d below) ∙ ap (λ number. shown_as (get_or kinds k d) (decoded_at number)) at

module _ (xs : List Value) (cells : Cells) (first : ℕ) where
  -- the slots have the first k of the values
  abbrev pub AreSame : ℕ → Type 0
  AreSame k = map (λ v. Some v) (take k xs) ≡ span first k cells

  -- the slots have one value more
  pub one_same : (k : ℕ) (x : Value) → slice_get xs k ≡ Some x → Some x ≡ held_in cells (first + k) → AreSame k → AreSame (k + 1)
  one_same k x at here same =
      let next : suc k ≡ k + 1 = omega arith in
      ap (map (λ v. Some v)) (take_more xs k x (slice_get_within xs k x at))
      ∙ map-append (λ v. Some v) (take k xs) (get_or xs k x ∷ [])
      ∙ (λ i. same i ++ (ap (λ v. Some v) (get_or_from_slice_get xs k x x at) ∙ here) i ∷ [])
      ∙ sym (map-append (λ k. held_in cells (first + k)) (first_numbers k) (k ∷ []))
      ∙ ap (λ n. span first n cells) next

  -- the slots have all of the values
  pub all_same : (k : ℕ) → length xs ≤ k → k ≤ length xs → AreSame k → map (λ v. Some v) xs ≡ span first (length xs) cells
  all_same k past within same =
      let all : k ≡ length xs = omega (arith, past, within) in
      sym (ap (map (λ v. Some v)) (take_all k xs past)) ∙ same ∙ ap (λ n. span first n cells) all

  -- the slots do not have all the values where one of them has another
  pub one_other : (k : ℕ) (x : Value) → slice_get xs k ≡ Some x → (Some x ≡ held_in cells (first + k) → ⊥)
      → map (λ v. Some v) xs ≡ span first (length xs) cells → ⊥
  one_other k x at other same =
      other (sym (ap (λ v. Some v) (get_or_from_slice_get xs k x x at)) ∙ sym (get_or-map (λ v. Some v) xs k x None (slice_get_within xs k x at))
      ∙ (ap (λ list. get_or list k None) same
      ∙ get_or-table (λ k. held_in cells (first + k)) (length xs) k None (slice_get_within xs k x at)))
