-- Values put into the slots of a name, and the arguments into those of the dummy arguments.
use Rattle.f77_meaning.proofs.Common.{List, ℕ, ◌≡◌, refl, Some, true, ap, arith, ◌∙◌, None, false, [], sym, ◌∷◌, Bool, Option, suc, length, zero, ◌<◌, ◌+◌, inr}
use Rattle.f77_meaning.proofs.Common.{inl, ◌≤◌, slice_get, if◌then◌else◌, map, position, slice_set, ◌⊎◌, get_or, nat_le, ◌≢◌, length-set, le-leb, ext_get_or}
use Rattle.f77_meaning.proofs.Common.{length-map, list_all, zip, option_map_or, bytes_eq, Value, shapes, shape_of, slot_count, first_slot, held_in, Cells}
use Rattle.f77_meaning.proofs.Common.{first_numbers, dummies, product, IsLegal, Symbol, bounds_of, values_of, AreFitting, values_in, has_shape, all_filled}
use Rattle.f77_meaning.proofs.Common.{filled, Arg, LineFields}
use Rattle.f77_meaning.proofs.Cells.{length-table, get_or-table}
use Rattle.f77_meaning.proofs.Dummies.{AreApart, same_symbol, either_way, dummies_apart}
use Rattle.f77_meaning.proofs.Places.{place_here, place_behind, missed}
use Rattle.f77_meaning.proofs.Spans.{span_within, spans_apart}
use Rattle.f77_meaning.proofs.Stored.{held_here, held_there, held_from, same_table}
use Rattle.f77_meaning.proofs.Typing.{shaped, held_at, held_later}

-- filling slots leaves their number as it was
pub filled_length : (cells : Cells) (first : ℕ) (vs : List Value) → length (filled cells first vs) ≡ length cells
filled_length cells first [] = refl
filled_length cells first (v ∷ vs) = filled_length (slice_set cells first (Some v)) (first + 1) vs ∙ length-set cells first (Some v)

pub all_filled_length : (cells : Cells) (xs : List (ℕ × Arg)) → length (all_filled cells xs) ≡ length cells
all_filled_length cells [] = refl
all_filled_length cells (x ∷ xs) = all_filled_length (filled cells x.0 (values_in x.1)) xs ∙ filled_length cells x.0 (values_in x.1)

-- the other slots hold what they held, and these the values in order
filled_apart : (cells : Cells) (first : ℕ) (vs : List Value) (j : ℕ) → (j < first) ⊎ (first + length vs ≤ j) → held_in (filled cells first vs) j ≡ held_in cells j
filled_apart cells first [] j apart = refl
filled_apart cells first (v ∷ vs) j apart =
    let elsewhere : j ≢ first = elim apart [ inl sooner ↦ omega (arith, sooner) | inr later ↦ omega (arith, later) ] in
    let further : (j < first + 1) ⊎ (first + 1 + length vs ≤ j) = elim apart [ inl sooner ↦ inl (omega (arith, sooner)) | inr later ↦ inr (omega (arith, later)) ] in
    filled_apart (slice_set cells first (Some v)) (first + 1) vs j further ∙ held_there cells first j v elsewhere

filled_within : (cells : Cells) (first : ℕ) (vs : List Value) (k : ℕ) → k < length vs → first + length vs ≤ length cells
    → held_in (filled cells first vs) (first + k) ≡ get_or (map (λ v. Some v) vs) k None
filled_within cells first [] k below within = absurd (omega arith)
filled_within cells first (v ∷ vs) zero below within =
    let at : first + zero ≡ first = omega arith in
    ap (held_in (filled cells first (v ∷ vs))) at
    ∙ filled_apart (slice_set cells first (Some v)) (first + 1) vs first (inl (omega arith))
    ∙ held_here cells first v (omega arith)
filled_within cells first (v ∷ vs) (suc k) below within =
    let at : first + suc k ≡ first + 1 + k = omega arith in
    ap (held_in (filled cells first (v ∷ vs))) at
    ∙ filled_within (slice_set cells first (Some v)) (first + 1) vs k (omega arith) (omega (arith, length-set cells first (Some v)))

-- a table is a list with the same values
table_is : (f : ℕ → Option Value) (n : ℕ) (xs : List (Option Value)) → length xs ≡ n → ((k : ℕ) → k < n → f k ≡ get_or xs k None) → map f (first_numbers n) ≡ xs
table_is f n xs long each =
    ext_get_or None (map f (first_numbers n)) xs (length-table f n ∙ sym long)
    (λ k h. let below : k < n = omega (arith, h, length-table f n) in get_or-table f n k None below ∙ each k below)

module _ (bounds : Symbol → List ℕ) (names : List Symbol) (cells : Cells) (name : Symbol) (first : ℕ) (vs : List Value)
    (size : length cells ≡ slot_count bounds names) (start : first_slot bounds names name ≡ Some first) (long : length vs ≡ product (bounds name)) where
  abbrev changed : Cells
  changed = filled cells first vs

  in_name : values_of bounds names changed name ≡ map (λ v. Some v) vs
  in_name =
      let within = span_within bounds names name first start in
      table_is (held_from changed (first_slot bounds names name)) (product (bounds name)) (map (λ v. Some v) vs) (length-map vs (λ v. Some v) ∙ long)
      (λ k below. ap (λ o. held_from changed o k) start ∙ filled_within cells first vs k (omega (arith, below, long)) (omega (arith, within, size, long)))

  in_other : (other : Symbol) → bytes_eq name other ≡ false → values_of bounds names changed other ≡ values_of bounds names cells other
  in_other other differ =
      same_table (held_from changed (first_slot bounds names other)) (held_from cells (first_slot bounds names other)) (product (bounds other))
      (λ j h. by j h (first_slot bounds names other) refl)
    where
      by : (j : ℕ) → j < product (bounds other) → (o : Option ℕ) → first_slot bounds names other ≡ o → held_from changed o j ≡ held_from cells o j
      by j h None e = refl
      by j h (Some begin) e =
          let apart : (first + product (bounds name) ≤ begin) ⊎ (begin + product (bounds other) ≤ first) = spans_apart bounds names name other first begin start e differ in
          let elsewhere : (begin + j < first) ⊎ (first + length vs ≤ begin + j)
          = elim apart [ inl later ↦ inr (omega (arith, later, long)) | inr sooner ↦ inl (omega (arith, sooner, h)) ] in
          filled_apart cells first vs (begin + j) elsewhere

  pub filled_values : (other : Symbol)
      → values_of bounds names (filled cells first vs) other ≡ (if bytes_eq name other then map (λ v. Some v) vs else values_of bounds names cells other)
  filled_values other = by (bytes_eq name other) refl
    where
      by : (b : Bool) → bytes_eq name other ≡ b → values_of bounds names changed other ≡ (if bytes_eq name other then map (λ v. Some v) vs else values_of bounds names cells other)
      by true e = rw e (ap (values_of bounds names changed) (sym (same_symbol name other e)) ∙ in_name)
      by false e = rw e (in_other other e)

-- an argument has as many elements as the name that it fits
long_enough : (p : List LineFields) (x : Symbol) (argument : Arg) → has_shape (shape_of p x) argument ≡ true → length (values_in argument) ≡ product (bounds_of p x)
long_enough p x argument fit = sym (length-map (values_in argument) (λ v. Some v)) ∙ (shaped p x argument fit).count

module _ (p : List LineFields) (names : List Symbol) where
  -- one argument in its slots
  abbrev with_one : Cells → ℕ → Arg → Cells
  with_one cells slot argument = filled cells slot (values_in argument)

  put_in : (list : List Symbol) (slots : List ℕ) (arguments : List Arg) (cells : Cells) → AreApart list → length cells ≡ slot_count (bounds_of p) names
      → map (first_slot (bounds_of p) names) list ≡ map (λ slot. Some slot) slots
      → AreFitting (map (shape_of p) list) arguments → (name : Symbol)
      → values_of (bounds_of p) names (all_filled cells (zip slots arguments)) name
      ≡ held_at (map values_in arguments) (values_of (bounds_of p) names cells name) (position (bytes_eq name) list)
  put_in [] [] arguments cells apart size starts fits name = refl
  put_in [] (slot ∷ slots) arguments cells apart size starts fits name = absurd (cc (starts))
  put_in (x ∷ list) [] arguments cells apart size starts fits name = absurd (cc (starts))
  put_in (x ∷ list) (slot ∷ slots) [] cells apart size starts fits name = absurd fits
  put_in (x ∷ list) (slot ∷ slots) (argument ∷ arguments) cells apart size starts fits name =
      by (bytes_eq x name) refl (put_in list slots arguments (with_one cells slot argument) apart.1 (filled_length cells slot (values_in argument) ∙ size) later_starts fits.1 name)
    where
      start : first_slot (bounds_of p) names x ≡ Some slot
      start = cc (starts)

      later_starts : map (first_slot (bounds_of p) names) list ≡ map (λ slot. Some slot) slots
      later_starts = cc (starts)

      first : values_of (bounds_of p) names (with_one cells slot argument) name ≡ (if bytes_eq x name then map (λ v. Some v) (values_in argument) else values_of (bounds_of p) names cells name)
      first = filled_values (bounds_of p) names cells x slot (values_in argument) size start (long_enough p x argument fits.0) name

      by : (b : Bool) → bytes_eq x name ≡ b
          → values_of (bounds_of p) names (all_filled (with_one cells slot argument) (zip slots arguments)) name
          ≡ held_at (map values_in arguments) (values_of (bounds_of p) names (with_one cells slot argument) name) (position (bytes_eq name) list)
          → values_of (bounds_of p) names (all_filled (with_one cells slot argument) (zip slots arguments)) name
          ≡ held_at (map values_in (argument ∷ arguments)) (values_of (bounds_of p) names cells name) (position (bytes_eq name) (x ∷ list))
      by true e later =
          let none : position (bytes_eq name) list ≡ None = ap (λ y. position (bytes_eq y) list) (sym (same_symbol x name e)) ∙ missed (bytes_eq x) list apart.0 in
          let at = place_here (bytes_eq name) x list (either_way name x ∙ e) in
          later
          ∙ ap (held_at (map values_in arguments) (values_of (bounds_of p) names (with_one cells slot argument) name)) none
          ∙ first
          ∙ ap (λ b. if b then map (λ v. Some v) (values_in argument) else values_of (bounds_of p) names cells name) e
          ∙ sym (ap (held_at (map values_in (argument ∷ arguments)) (values_of (bounds_of p) names cells name)) at)
      by false e later =
          let at = place_behind (bytes_eq name) x list (either_way name x ∙ e) in
          let same = first ∙ ap (λ b. if b then map (λ v. Some v) (values_in argument) else values_of (bounds_of p) names cells name) e in
          later
          ∙ ap (λ held. held_at (map values_in arguments) held (position (bytes_eq name) list)) same
          ∙ sym (held_later (values_in argument) (map values_in arguments) (values_of (bounds_of p) names cells name) (position (bytes_eq name) list))
          ∙ sym (ap (held_at (map values_in (argument ∷ arguments)) (values_of (bounds_of p) names cells name)) at)

  within : (list : List Symbol) (slots : List ℕ) (arguments : List Arg) (cells : Cells) → length cells ≡ slot_count (bounds_of p) names
      → map (first_slot (bounds_of p) names) list ≡ map (λ slot. Some slot) slots
      → AreFitting (map (shape_of p) list) arguments
      → list_all (λ x. nat_le (x.0 + length (values_in x.1)) (length cells)) (zip slots arguments) ≡ true
  within [] [] arguments cells size starts fits = refl
  within [] (slot ∷ slots) arguments cells size starts fits = absurd (cc (starts))
  within (x ∷ list) [] arguments cells size starts fits = absurd (cc (starts))
  within (x ∷ list) (slot ∷ slots) [] cells size starts fits = absurd fits
  within (x ∷ list) (slot ∷ slots) (argument ∷ arguments) cells size starts fits =
      let long = long_enough p x argument fits.0 in
      let span = span_within (bounds_of p) names x slot (cc (starts)) in
      let le : slot + length (values_in argument) ≤ length cells = omega (arith, long, span, size) in
      rw (le-leb (slot + length (values_in argument)) (length cells) le) (within list slots arguments cells size (cc (starts)) fits.1)

-- each argument stands in the slots of its dummy argument, and no other name holds another value
pub arguments_filled : (p : List LineFields) (names : List Symbol) (cells : Cells) (slots : List ℕ) (arguments : List Arg) → IsLegal p
    → length cells ≡ slot_count (bounds_of p) names → map (first_slot (bounds_of p) names) (dummies p) ≡ map (λ slot. Some slot) slots → AreFitting (shapes p) arguments
    → (name : Symbol)
    → values_of (bounds_of p) names (all_filled cells (zip slots arguments)) name
    ≡ option_map_or (λ i. option_map_or (map (λ v. Some v)) (slice_get (map values_in arguments) i) []) (position (bytes_eq name) (dummies p))
    (values_of (bounds_of p) names cells name)
arguments_filled p names cells slots arguments legal size starts fitting name =
    put_in p names (dummies p) slots arguments cells (dummies_apart p legal) size starts fitting name

-- there is room for each argument
pub arguments_within : (p : List LineFields) (names : List Symbol) (cells : Cells) (slots : List ℕ) (arguments : List Arg)
    → length cells ≡ slot_count (bounds_of p) names → map (first_slot (bounds_of p) names) (dummies p) ≡ map (λ slot. Some slot) slots → AreFitting (shapes p) arguments
    → list_all (λ x. nat_le (x.0 + length (values_in x.1)) (length cells)) (zip slots arguments) ≡ true
arguments_within p names cells slots arguments size starts fitting = within p names (dummies p) slots arguments cells size starts fitting
