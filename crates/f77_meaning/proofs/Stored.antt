-- A value put into a slot is put into the element of the name that the slot belongs to.
use Rattle.f77_meaning.proofs.Common.{List, ℕ, ◌≡◌, refl, Some, true, ap, arith, ◌∙◌, None, false, sym, Bool, Option, length, ◌<◌, ◌+◌, inr, inl, ◌≤◌}
use Rattle.f77_meaning.proofs.Common.{slice_get, map, slice_set, ◌⊎◌, get_or, ◌≢◌, length-set, ext_get_or, get_or-set_other, get_or-set_same, unwrap_or}
use Rattle.f77_meaning.proofs.Common.{cases_eq, unwrap_or-slice_get, bytes_eq-Decides, option_and_then, bytes_eq, Value, slot_count, first_slot, held_in}
use Rattle.f77_meaning.proofs.Common.{first_numbers, product, Symbol, values_of, store_with}
use Rattle.f77_meaning.proofs.Cells.{length-table, get_or-table}
use Rattle.f77_meaning.proofs.Spans.{span_within, spans_apart}

-- a slot past the end holds nothing
pub held_get : (cells : List (Option Value)) (k : ℕ) → held_in cells k ≡ get_or cells k None
held_get cells k = by (slice_get cells k) ∙ unwrap_or-slice_get cells k None
  where
    by : (o : Option (Option Value)) → option_and_then (λ cell. cell) o ≡ unwrap_or o None
    by None = refl
    by (Some cell) = refl

pub held_here : (cells : List (Option Value)) (k : ℕ) (v : Value) → k < length cells → held_in (slice_set cells k (Some v)) k ≡ Some v
held_here cells k v h = held_get (slice_set cells k (Some v)) k ∙ get_or-set_same cells k (Some v) None h

pub held_there : (cells : List (Option Value)) (k j : ℕ) (v : Value) → j ≢ k → held_in (slice_set cells k (Some v)) j ≡ held_in cells j
held_there cells k j v h = held_get (slice_set cells k (Some v)) j ∙ get_or-set_other cells k j (Some v) None h ∙ sym (held_get cells j)

-- tables of equal values, and of equal values but for one
pub same_table : (f g : ℕ → Option Value) (n : ℕ) → ((j : ℕ) → j < n → f j ≡ g j) → map f (first_numbers n) ≡ map g (first_numbers n)
same_table f g n same =
    ext_get_or None (map f (first_numbers n)) (map g (first_numbers n)) (length-table f n ∙ sym (length-table g n))
    (λ j h. let below : j < n = omega (arith, h, length-table f n) in get_or-table f n j None below ∙ same j below ∙ sym (get_or-table g n j None below))

one_changed : (f g : ℕ → Option Value) (n k : ℕ) (v : Option Value) → k < n → f k ≡ v → ((j : ℕ) → j ≢ k → f j ≡ g j)
    → map f (first_numbers n) ≡ slice_set (map g (first_numbers n)) k v
one_changed f g n k v below here others =
    ext_get_or None (map f (first_numbers n)) (slice_set (map g (first_numbers n)) k v)
    (length-table f n ∙ sym (length-set (map g (first_numbers n)) k v ∙ length-table g n))
    (λ j h. let within : j < n = omega (arith, h, length-table f n) in get_or-table f n j None within ∙ by j within (cases_eq j k))
  where
    by : (j : ℕ) → j < n → (j ≡ k) ⊎ (j ≢ k) → f j ≡ get_or (slice_set (map g (first_numbers n)) k v) j None
    by j h (inl e) =
        let long = length-table g n in
        rw e (here ∙ sym (get_or-set_same (map g (first_numbers n)) k v None (omega (arith, long, below))))
    by j h (inr differ) = others j differ ∙ sym (get_or-set_other (map g (first_numbers n)) k j v None differ ∙ get_or-table g n j None h)

-- the element of a name with this first slot, if it has one
abbrev pub held_from : List (Option Value) → Option ℕ → ℕ → Option Value
held_from slots o j = option_and_then (λ begin. held_in slots (begin + j)) o

module _ (bounds : Symbol → List ℕ) (names : List Symbol) (cells : List (Option Value)) (name : Symbol) (first k : ℕ) (v : Value)
    (size : length cells ≡ slot_count bounds names) (start : first_slot bounds names name ≡ Some first) (below : k < product (bounds name)) where
  abbrev changed : List (Option Value)
  changed = slice_set cells (first + k) (Some v)

  in_name : values_of bounds names changed name ≡ slice_set (values_of bounds names cells name) k (Some v)
  in_name =
      let within = span_within bounds names name first start in
      one_changed (held_from changed (first_slot bounds names name)) (held_from cells (first_slot bounds names name)) (product (bounds name)) k (Some v) below
      (ap (λ o. held_from changed o k) start ∙ held_here cells (first + k) v (omega (arith, within, size, below)))
      (λ j differ.
      ap (λ o. held_from changed o j) start ∙ held_there cells (first + k) (first + j) v (omega (arith, differ)) ∙ sym (ap (λ o. held_from cells o j) start))

  in_other : (other : Symbol) → bytes_eq name other ≡ false → values_of bounds names changed other ≡ values_of bounds names cells other
  in_other other differ =
      same_table (held_from changed (first_slot bounds names other)) (held_from cells (first_slot bounds names other)) (product (bounds other))
      (λ j h. by j h (first_slot bounds names other) refl)
    where
      by : (j : ℕ) → j < product (bounds other) → (o : Option ℕ) → first_slot bounds names other ≡ o → held_from changed o j ≡ held_from cells o j
      by j h None e = refl
      by j h (Some begin) e =
          let apart : (first + product (bounds name) ≤ begin) ⊎ (begin + product (bounds other) ≤ first) = spans_apart bounds names name other first begin start e differ in
          let elsewhere : begin + j ≢ first + k = elim apart [ inl sooner ↦ omega (arith, sooner, h, below) | inr later ↦ omega (arith, later, h, below) ] in
          held_there cells (first + k) (begin + j) v elsewhere

  in_each : (other : Symbol) → values_of bounds names changed other ≡ store_with (values_of bounds names cells) name k v other
  in_each other = by (bytes_eq name other) refl
    where
      by : (b : Bool) → bytes_eq name other ≡ b → values_of bounds names changed other ≡ store_with (values_of bounds names cells) name k v other
      by true e =
          let same : name ≡ other = (bytes_eq-Decides name other).0 e in
          rw e (ap (values_of bounds names changed) (sym same) ∙ in_name ∙ ap (λ n. slice_set (values_of bounds names cells n) k (Some v)) same)
      by false e = rw e (in_other other e)

  pub stored : values_of bounds names (slice_set cells (first + k) (Some v)) ≡ store_with (values_of bounds names cells) name k v
  stored = λ i. λ other. in_each other i
