-- The labels of a list, each once: with one more label, and the first that passes a test.
use Rattle.f77_legal.proofs.Common.{◌≡◌, ◌∙◌, ap, List, refl, ℕ, [], false, ◌∷◌, Bool, true, Some, ◌++◌, filter, ◌||◌, Option, not, cond, inr, slice_get, inl}
use Rattle.f77_legal.proofs.Common.{append-nil, nat_eq, eqb_tells, nat_eq_equiv, filter-append, list_any, find, distinct}

-- `==` either way round
pub flipped : (a b : ℕ) → nat_eq a b ≡ nat_eq b a
flipped a b = nat_eq_equiv.symm a b

abbrev others : ℕ → List ℕ → List ℕ
others x = filter (λ other. not (nat_eq x other))

-- the labels of a list, each once, with one more label behind
distinct_by : (x label : ℕ) (rest : List ℕ) (b here : Bool) → nat_eq label x ≡ b
    → x ∷ others x (rest ++ cond here [] (label ∷ []))
    ≡ (x ∷ others x rest) ++ cond (b || here) [] (label ∷ [])
distinct_by x label rest true true e = rw (append-nil rest, append-nil) refl
distinct_by x label rest true false e =
    let same : nat_eq x label ≡ true = flipped x label ∙ e in
    ap (λ l. x ∷ l) (filter-append (λ other. not (nat_eq x other)) rest (label ∷ []) ∙ ap (λ b. others x rest ++ cond (not b) (label ∷ []) []) same)
distinct_by x label rest false true e = rw (append-nil rest, append-nil) refl
distinct_by x label rest false false e =
    let apart : nat_eq x label ≡ false = flipped x label ∙ e in
    ap (λ l. x ∷ l) (filter-append (λ other. not (nat_eq x other)) rest (label ∷ []) ∙ ap (λ b. others x rest ++ cond (not b) (label ∷ []) []) apart)

pub distinct-push : (all : List ℕ) (label : ℕ) → distinct (all ++ label ∷ []) ≡ distinct all ++ cond (list_any (nat_eq label) all) [] (label ∷ [])
distinct-push [] label = refl
distinct-push (x ∷ all) label =
    ap (λ l. x ∷ others x l) (distinct-push all label)
    ∙ distinct_by x label (distinct all) (nat_eq label x) (list_any (nat_eq label) all) refl

-- the first that passes a test, in a filtered list
find-filter : (p q : ℕ → Bool) (xs : List ℕ) → ((x : ℕ) → p x ≡ true → q x ≡ true) → find p (filter q xs) ≡ find p xs
find-filter p q [] kept = refl
find-filter p q (x ∷ xs) kept = by (p x) (q x) refl refl (find-filter p q xs kept)
  where
    by : (a b : Bool) → p x ≡ a → q x ≡ b → find p (filter q xs) ≡ find p xs → find p (cond b (x ∷ filter q xs) (filter q xs)) ≡ cond a (Some x) (find p xs)
    by true true pa qb rest = ap (λ c. cond c (Some x) (find p (filter q xs))) pa
    by false true pa qb rest = ap (λ c. cond c (Some x) (find p (filter q xs))) pa ∙ rest
    by false false pa qb rest = rest
    by true false pa qb rest = let k = kept x pa in cc

distinct_find : (p : ℕ → Bool) (x : ℕ) (xs : List ℕ) (b : Bool) → p x ≡ b → find p (distinct xs) ≡ find p xs
    → cond b (Some x) (find p (others x (distinct xs))) ≡ cond b (Some x) (find p xs)
distinct_find p x xs true e rest = refl
distinct_find p x xs false e rest = find-filter p (λ other. not (nat_eq x other)) (distinct xs) apart ∙ rest
  where
    apart : (other : ℕ) → p other ≡ true → not (nat_eq x other) ≡ true
    apart other passes =
        elim (eqb_tells x other) [
          | inl same ↦ let q : p x ≡ p other = ap p same.1 in cc
          | inr differ ↦ ap not differ.0
        ]

pub find_distinct : (p : ℕ → Bool) (xs : List ℕ) → find p (distinct xs) ≡ find p xs
find_distinct p [] = refl
find_distinct p (x ∷ xs) = distinct_find p x xs (p x) refl (find_distinct p xs)

first_by : (x : ℕ) (b : Bool) (found : Option ℕ) (rest : List ℕ) → found ≡ slice_get rest 0 → cond b (Some x) found ≡ slice_get (cond b (x ∷ rest) rest) 0
first_by x true found rest e = refl
first_by x false found rest e = e

pub find_first : (p : ℕ → Bool) (xs : List ℕ) → find p xs ≡ slice_get (filter p xs) 0
find_first p [] = refl
find_first p (x ∷ xs) = first_by x (p x) (find p xs) (filter p xs) (find_first p xs)
