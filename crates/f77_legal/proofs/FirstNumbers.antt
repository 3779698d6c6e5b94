-- Lists that hold a value of each of the first numbers, and searches among these.
use Rattle.f77_legal.proofs.Common.{◌≡◌, ◌∙◌, ap, map, sym, List, refl, ℕ, [], false, ◌∷◌, length, Bool, arith, true, Some, None, ◌++◌, ◌+◌, ◌||◌, suc, take}
use Rattle.f77_legal.proofs.Common.{Option, ◌&&◌, ◌<◌, cond, get_or, ◌≤◌, zero, inr, inl, ◌⊎◌, add-one, length-append, ext_get_or, take_all, cases_lt}
use Rattle.f77_legal.proofs.Common.{map-append, length-map, get_or_append_left, get_or_push, take-append-le, find-append, list_any-append, list_any, find}
use Rattle.f77_legal.proofs.Common.{option_map_or, option_or, first_numbers}

pub length-first_numbers : (n : ℕ) → length (first_numbers n) ≡ n
length-first_numbers zero = refl
length-first_numbers (suc n) = length-append (first_numbers n) (n ∷ []) ∙ (ap (λ k. k + 1) (length-first_numbers n) ∙ add-one n)

pub length-table : {X : Type 0} (f : ℕ → X) (n : ℕ) → length (map f (first_numbers n)) ≡ n
length-table f n = length-map (first_numbers n) f ∙ length-first_numbers n

-- one more number
pub table_more : {X : Type 0} (f : ℕ → X) (n : ℕ) → map f (first_numbers (n + 1)) ≡ map f (first_numbers n) ++ (f n ∷ [])
table_more f n = rw (add-one n) (map-append f (first_numbers n) (n ∷ []))

pub get_or-table : {X : Type 0} (f : ℕ → X) (n i : ℕ) (d : X) → i < n → get_or (map f (first_numbers n)) i d ≡ f i
get_or-table f zero i d h = absurd (omega arith)
get_or-table f (suc n) i d h = rw (map-append f (first_numbers n) (n ∷ [])) (either (get_or-table f n i d) (cases_lt i n))
  where
    either : (i < n → get_or (map f (first_numbers n)) i d ≡ f i) → (i < n) ⊎ (n ≤ i) → get_or (map f (first_numbers n) ++ (f n ∷ [])) i d ≡ f i
    either before (inl below) = get_or_append_left (map f (first_numbers n)) (f n ∷ []) d i (rw (length-table f n) below) ∙ before below
    either before (inr above) = let e : n ≡ i = omega arith in get_or_push (map f (first_numbers n)) (f n) d i (length-table f n ∙ e) ∙ ap f e

pub table_from_each : {X : Type 0} (f : ℕ → X) (n : ℕ) (xs : List X) (d : X) → length xs ≡ n → ((k : ℕ) → k < n → get_or xs k d ≡ f k) → xs ≡ map f (first_numbers n)
table_from_each f n xs d long each =
    ext_get_or d xs (map f (first_numbers n)) (long ∙ sym (length-table f n)) (λ k h. let b : k < n = omega arith in each k b ∙ sym (get_or-table f n k d b))

pub take-table : {X : Type 0} (f : ℕ → X) (n k : ℕ) → k ≤ n → take k (map f (first_numbers n)) ≡ map f (first_numbers k)
take-table f zero k h = let e : k ≡ 0 = omega arith in rw e refl
take-table f (suc n) k h = either (take-table f n k) (cases_lt n k)
  where
    either : (k ≤ n → take k (map f (first_numbers n)) ≡ map f (first_numbers k)) → (n < k) ⊎ (k ≤ n) → take k (map f (first_numbers (suc n))) ≡ map f (first_numbers k)
    either before (inl above) = let e : k ≡ suc n = omega arith in rw e (take_all (suc n) (map f (first_numbers (suc n))) (omega (arith, length-table f (suc n))))
    either before (inr below) =
        rw (map-append f (first_numbers n) (n ∷ [])) (take-append-le k (map f (first_numbers n)) (f n ∷ []) (omega (arith, length-table f n)) ∙ before below)

pub none_found : (p : ℕ → Bool) (n : ℕ) → ((k : ℕ) → k < n → p k ≡ false) → None ≡ find p (first_numbers n)
none_found p zero fails = refl
none_found p (suc n) fails =
    rw (find-append p (first_numbers n) (n ∷ [])) (rw (← none_found p n (λ k h. fails k (omega arith))) (rw (fails n (omega arith)) refl))

pub first_found : (p : ℕ → Bool) (n j : ℕ) → j < n → p j ≡ true → ((k : ℕ) → k < j → p k ≡ false) → Some j ≡ find p (first_numbers n)
first_found p zero j h passes fails = absurd (omega arith)
first_found p (suc n) j h passes fails = rw (find-append p (first_numbers n) (n ∷ [])) (either (λ below. first_found p n j below passes fails) (cases_lt j n))
  where
    either : (j < n → Some j ≡ find p (first_numbers n)) → (j < n) ⊎ (n ≤ j) → Some j ≡ option_or (find p (first_numbers n)) (find p (n ∷ []))
    either before (inl below) = rw (← before below) refl
    either before (inr above) =
        let e : n ≡ j = omega arith in
        rw (← none_found p n (λ k b. fails k (omega arith))) (rw e (rw passes refl))

pub find_same : (p q : ℕ → Bool) → ((k : ℕ) → p k ≡ q k) → (ns : List ℕ) → find p ns ≡ find q ns
find_same p q same [] = refl
find_same p q same (n ∷ ns) = rw (same n) (rw (find_same p q same ns) refl)

pub any_same : (p q : ℕ → Bool) (n : ℕ) → ((k : ℕ) → k < n → p k ≡ q k) → list_any p (first_numbers n) ≡ list_any q (first_numbers n)
any_same p q zero same = refl
any_same p q (suc n) same =
    rw (list_any-append p (first_numbers n) (n ∷ [])) (rw (list_any-append q (first_numbers n) (n ∷ [])) (rw (any_same p q n (λ k h. same k (omega arith))) (rw (same n (omega arith)) refl)))

pub or_false : (b : Bool) → (b || false) ≡ b
or_false true = refl
or_false false = refl

-- numbers that fail a test can be left out
pub any_below : (p : ℕ → Bool) (k n : ℕ) → k ≤ n → ((b : ℕ) → k ≤ b → p b ≡ false) → list_any p (first_numbers n) ≡ list_any p (first_numbers k)
any_below p k zero h fails = let e : k ≡ 0 = omega arith in rw e refl
any_below p k (suc n) h fails = either (λ below. any_below p k n below fails) (cases_lt n k)
  where
    either : (k ≤ n → list_any p (first_numbers n) ≡ list_any p (first_numbers k)) → (n < k) ⊎ (k ≤ n) → list_any p (first_numbers (suc n)) ≡ list_any p (first_numbers k)
    either before (inl above) = let e : k ≡ suc n = omega arith in rw e refl
    either before (inr below) =
        rw (list_any-append p (first_numbers n) (n ∷ [])) (rw (fails n below) (or_false (list_any p (first_numbers n)) ∙ before below))

-- ends that stand only at the numbers that pass
pub any_end : (test c : ℕ → Bool) (end : ℕ → Option ℕ) (ns : List ℕ)
    → list_any (λ e. option_map_or test e false) (map (λ b. cond (c b) (end b) None) ns) ≡ list_any (λ b. c b && option_map_or test (end b) false) ns
any_end test c end [] = refl
any_end test c end (n ∷ ns) = rw (one (c n) (end n)) (rw (any_end test c end ns) refl)
  where
    one : (b : Bool) (e : Option ℕ) → option_map_or test (cond b e None) false ≡ (b && option_map_or test e false)
    one true e = refl
    one false e = refl
