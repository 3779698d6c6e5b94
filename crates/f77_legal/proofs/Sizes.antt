-- Products and sums that stop at a limit.
use Rattle.f77_legal.proofs.Common.{◌≡◌, ◌∙◌, ap, map, sym, List, refl, ℕ, [], false, ◌∷◌, length, Bool, arith, true, ◌++◌, ◌+◌, filter, suc, take, ◌<◌, get_or}
use Rattle.f77_legal.proofs.Common.{◌≤◌, zero, nat_lt, inr, is_some, inl, ◌⊎◌, min, ◌*◌, fold, cases_lt, nat_tests, take_more, sum, values_of, Symbol, entry_of}
use Rattle.f77_legal.proofs.Common.{product, symbols, uses, FactsFields, element_count, facts_fields, facts_of, is_array, IsNameTable, some_items, array_size}
use Rattle.f77_legal.proofs.Common.{Facts, Names, LineFields}
use Rattle.std.proofs.Math.Nat.{mul_assoc}
use Rattle.f77_legal.proofs.NameTables.{rows}

product_push : (xs : List ℕ) (x : ℕ) → product (xs ++ x ∷ []) ≡ product xs * x
product_push [] x = omega arith
product_push (y ∷ ys) x = ap (λ z. y * z) (product_push ys x) ∙ sym (mul_assoc y (product ys) x)

min_product : (n a x : ℕ) → min (min a n * x) n ≡ min (a * x) n
min_product n a zero = omega arith
min_product n a (suc x) = by (cases_lt n a)
  where
    by : (n < a) ⊎ (a ≤ n) → min (min a n * suc x) n ≡ min (a * suc x) n
    by (inl over) =
        let e : min a n ≡ n = omega arith in
        let p : n ≤ n * suc x = omega arith in
        let q : n ≤ a * suc x = omega arith in
        rw e (omega arith)
    by (inr within) = let e : min a n ≡ a = omega arith in rw e refl

pub product_more : (n : ℕ) (bounds : List ℕ) (i d : ℕ) → i < length bounds → min (min (product (take i bounds)) n * get_or bounds i d) n ≡ min (product (take (i + 1) bounds)) n
product_more n bounds i d here =
    min_product n (product (take i bounds)) (get_or bounds i d)
    ∙ ap (λ z. min z n) (sym (ap product (take_more bounds i d here) ∙ product_push (take i bounds) (get_or bounds i d)))

sum_from : (a : ℕ) (xs : List ℕ) → fold ◌+◌ a xs ≡ a + sum xs
sum_from a [] = omega arith
sum_from a (x ∷ xs) =
    let whole = sum_from (a + x) xs in
    let tail = sum_from (0 + x) xs in
    omega (arith, whole, tail)

pub sum_more : (x : ℕ) (xs : List ℕ) → sum (x ∷ xs) ≡ x + sum xs
sum_more x xs = let h = sum_from (0 + x) xs in omega (arith, h)

-- a sum of which each step stops at n
abbrev pub stopped : {X : Type 0} → ℕ → (X → ℕ) → ℕ → List X → ℕ
stopped n size = fold (λ total x. min (total + min (size x) n) n)

stopped_sum : {X : Type 0} (n : ℕ) (size : X → ℕ) (xs : List X) (a : ℕ) → stopped n size (min a n) xs ≡ min (a + sum (map size xs)) n
stopped_sum n size [] a = omega arith
stopped_sum n size (x ∷ xs) a =
    let e : min (min a n + min (size x) n) n ≡ min (a + size x) n = omega arith in
    ap (λ z. stopped n size z xs) e ∙ stopped_sum n size xs (a + size x) ∙ ap (λ z. min z n) (let h = sum_more (size x) (map size xs) in omega (arith, h))

pub stopped_all : {X : Type 0} (n : ℕ) (size : X → ℕ) (xs : List X) → stopped n size 0 xs ≡ min (sum (map size xs)) n
stopped_all n size xs =
    let start : 0 ≡ min 0 n = omega arith in
    ap (λ z. stopped n size z xs) start ∙ stopped_sum n size xs 0 ∙ ap (λ z. min z n) (omega arith)

over_stopped : (limit s n : ℕ) → limit < n → nat_lt limit (min s n) ≡ nat_lt limit s
over_stopped limit s n below = grind (arith, nat_tests)

sum_fields : (es : List (Symbol × Facts)) → sum (map (λ f. array_size (facts_fields f)) (values_of es)) ≡ sum (map (λ e. array_size e.1) (map entry_of es))
sum_fields [] = refl
sum_fields (e ∷ es) =
    sum_more (array_size (facts_fields e.1)) (map (λ f. array_size (facts_fields f)) (values_of es))
    ∙ ap (λ z. array_size (facts_fields e.1) + z) (sum_fields es)
    ∙ sym (sum_more (array_size (facts_fields e.1)) (map (λ e. array_size e.1) (map entry_of es)))

module _ (f : Symbol → FactsFields) where
  sum_rows : (xs : List Symbol) → sum (map (λ e. array_size e.1) (rows f xs)) ≡ sum (map (λ q. product (f q).bounds) (filter (λ q. is_some (some_items (f q).bounds)) xs))
  sum_rows [] = refl
  sum_rows (x ∷ xs) = by (is_some (some_items (f x).bounds)) refl (sum_rows xs)
    where
      by : (b : Bool) → is_some (some_items (f x).bounds) ≡ b
          → sum (map (λ e. array_size e.1) (rows f xs)) ≡ sum (map (λ q. product (f q).bounds) (filter (λ q. is_some (some_items (f q).bounds)) xs))
          → sum (map (λ e. array_size e.1) (rows f (x ∷ xs))) ≡ sum (map (λ q. product (f q).bounds) (filter (λ q. is_some (some_items (f q).bounds)) (x ∷ xs)))
      by true t rest =
          rw t
          (sum_more (product (f x).bounds) (map (λ e. array_size e.1) (rows f xs))
          ∙ ap (λ z. product (f x).bounds + z) rest
          ∙ sym (sum_more (product (f x).bounds) (map (λ q. product (f q).bounds) (filter (λ q. is_some (some_items (f q).bounds)) xs))))
      by false t rest = rw t (sum_more 0 (map (λ e. array_size e.1) (rows f xs)) ∙ ap (λ z. 0 + z) rest ∙ omega arith)

pub over_is : (names : Names) (program : List LineFields) (n limit : ℕ) → IsNameTable names program → limit < n
    → nat_lt limit (min (sum (map (λ f. array_size (facts_fields f)) (values_of names.facts.entries))) n)
    ≡ nat_lt limit (sum (map (element_count program) (filter (is_array program) (symbols program))))
over_is names program n limit is below =
    over_stopped limit (sum (map (λ f. array_size (facts_fields f)) (values_of names.facts.entries))) n below
    ∙ ap (nat_lt limit)
    (sum_fields names.facts.entries
    ∙ ap (λ es. sum (map (λ e. array_size e.1) es)) is
    ∙ sum_rows (facts_of (uses program)) (symbols program))
