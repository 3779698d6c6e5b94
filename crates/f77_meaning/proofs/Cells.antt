-- The elements of names, read from slots.
use Rattle.f77_meaning.proofs.Common.{List, ℕ, ◌≡◌, refl, Some, true, ap, arith, ◌∙◌, false, [], sym, ◌∷◌, Bool, Option, suc, length, zero, ◌<◌, ◌+◌, inr, inl}
use Rattle.f77_meaning.proofs.Common.{option_map, ℤ, ◌≤◌, slice_get, pos, Err, Ok, Result, negsuc, map, nat_lt, ◌⊎◌, get_or, ltb-true, ◌++◌, length-append, ◌*◌}
use Rattle.f77_meaning.proofs.Common.{add-one, cases_lt, length-map, get_or_append_left, get_or_push, get_or_from_slice_get, slice_get-map, slice_get_read}
use Rattle.f77_meaning.proofs.Common.{option_and_then, element, Fault, Value, first_slot, held_in, first_numbers, product, Symbol, values_of}
use Rattle.std.proofs.lemmas.Nat.{mul-add-lt}

length-numbers : (n : ℕ) → length (first_numbers n) ≡ n
length-numbers zero = refl
length-numbers (suc n) = length-append (first_numbers n) (n ∷ []) ∙ (ap (λ k. k + 1) (length-numbers n) ∙ add-one n)

get_or-numbers : (n k d : ℕ) → k < n → get_or (first_numbers n) k d ≡ k
get_or-numbers zero k d h = absurd (omega arith)
get_or-numbers (suc n) k d h = either (get_or-numbers n k d) (cases_lt k n)
  where
    either : (k < n → get_or (first_numbers n) k d ≡ k) → (k < n) ⊎ (n ≤ k) → get_or (first_numbers n ++ (n ∷ [])) k d ≡ k
    either before (inl below) = get_or_append_left (first_numbers n) (n ∷ []) d k (omega (arith, length-numbers n)) ∙ before below
    either before (inr above) = let e : n ≡ k = omega arith in get_or_push (first_numbers n) n d k (length-numbers n ∙ e) ∙ e

-- one of a table's values
pub read_table : {X : Type 0} (f : ℕ → X) (n k : ℕ) → k < n → slice_get (map f (first_numbers n)) k ≡ Some (f k)
read_table f n k h =
    let here : slice_get (first_numbers n) k ≡ Some k = slice_get_read (first_numbers n) n k k (sym (length-numbers n)) h (sym (get_or-numbers n k k h)) in
    slice_get-map f (first_numbers n) k ∙ ap (option_map f) here

pub length-table : {X : Type 0} (f : ℕ → X) (n : ℕ) → length (map f (first_numbers n)) ≡ n
length-table f n = length-map (first_numbers n) f ∙ length-numbers n

pub get_or-table : {X : Type 0} (f : ℕ → X) (n k : ℕ) (d : X) → k < n → get_or (map f (first_numbers n)) k d ≡ f k
get_or-table f n k d h = get_or_from_slice_get (map f (first_numbers n)) k (f k) d (read_table f n k h)

-- an element's place is one of those of its array
pub place_within : (bounds : List ℕ) (zs : List ℤ) (k : ℕ) → element bounds zs ≡ Ok k → k < product bounds
place_within [] [] k e = let zeroth : 0 ≡ k = cc (e) in omega (arith, zeroth)
place_within [] (z ∷ zs) k e = absurd (cc (e))
place_within (bound ∷ bounds) [] k e = absurd (cc (e))
place_within (bound ∷ bounds) (pos zero ∷ zs) k e = absurd (cc (e))
place_within (bound ∷ bounds) (negsuc n ∷ zs) k e = absurd (cc (e))
place_within (bound ∷ bounds) (pos (suc n) ∷ zs) k e = by (nat_lt n bound) (element bounds zs) refl refl e (place_within bounds zs)
  where
    by : (b : Bool) (r : Result ℕ Fault) → nat_lt n bound ≡ b → element bounds zs ≡ r → element (bound ∷ bounds) (pos (suc n) ∷ zs) ≡ Ok k
        → ((j : ℕ) → element bounds zs ≡ Ok j → j < product bounds) → k < product (bound ∷ bounds)
    by true (Ok j) t f e rest =
        let whole = rw (t, f) at e in
        let same : n + bound * j ≡ k = cc (whole) in
        let below = mul-add-lt j bound n (product bounds) (rest j f) (ltb-true n bound t) in
        omega (arith, same, below)
    by true (Err x) t f e rest = let whole = rw (t, f) at e in absurd (cc (whole))
    by false r t f e rest = let whole = rw t at e in absurd (cc (whole))

-- what an element holds
pub held_value : (bounds : Symbol → List ℕ) (names : List Symbol) (cells : List (Option Value)) (name : Symbol) (first k : ℕ)
    → first_slot bounds names name ≡ Some first → k < product (bounds name)
    → option_and_then (λ cell. cell) (slice_get (values_of bounds names cells name) k) ≡ held_in cells (first + k)
held_value bounds names cells name first k starts below =
    ap (option_and_then (λ cell. cell)) (read_table (λ j. option_and_then (λ start. held_in cells (start + j)) (first_slot bounds names name)) (product (bounds name)) k below)
    ∙ ap (option_and_then (λ start. held_in cells (start + k))) starts
