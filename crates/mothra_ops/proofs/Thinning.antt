-- Lists of which each q-th item is kept.
use Rattle.mothra_ops.proofs.Common.{◌≡◌, ◌∙◌, ap, sym, List, map, arith, refl, Some, length, ℕ, ◌≤◌, [], ◌+◌, ◌-◌, suc, ◌<◌, inr, slice_get, zero, ◌∷◌, inl}
use Rattle.mothra_ops.proofs.Common.{◌⊎◌, true, false, cond, filter, ◌%◌, ◌==◌, ◌*◌, cases_lt, nat_tests, slice_get_cases, slice_get_within, enumerate_from}
use Rattle.mothra_ops.proofs.Common.{thinned}
use Rattle.std.proofs.Math.Nat.{add-mul}
use Rattle.std.proofs.lemmas.Nat.{mod-mul-add}

-- the items of a list that follows n others, thinned
abbrev from : {X : Type 0} → ℕ → ℕ → List X → List X
from q n xs = map (λ numbered. numbered.1) (filter (λ numbered. numbered.0 % q == 0) (enumerate_from n xs))

-- after n items the next item that is kept is the c-th
record At (q n c : ℕ) : Type 0 where
  rounds : ℕ
  over : ℕ
  is : n ≡ rounds * q + over
  low : over < q
  left : ((over ≡ 0) × (c ≡ 0)) ⊎ ((1 ≤ over) × (over + c ≡ q))

kept_at : (q n : ℕ) → At q n 0 → (n % q == 0) ≡ true
kept_at q n at = elim at.left [
  | inl (none, now) ↦ ap (λ m. m % q == 0) at.is ∙ ap (λ m. m == 0) (mod-mul-add at.rounds q at.over at.low) ∙ ap (λ m. m == 0) none
  | inr (some, whole) ↦ absurd (let low = at.low in omega (arith, low, whole))
]

not_zero : (m : ℕ) → 1 ≤ m → (m == 0) ≡ false
not_zero m some = grind (arith, nat_tests)

passed_at : (q n c : ℕ) → At q n (suc c) → (n % q == 0) ≡ false
passed_at q n c at = elim at.left [
  | inl (none, now) ↦ absurd (omega (arith, now))
  | inr (some, whole) ↦ ap (λ m. m % q == 0) at.is ∙ ap (λ m. m == 0) (mod-mul-add at.rounds q at.over at.low) ∙ not_zero at.over some
]

round : (a q : ℕ) → (a + 1) * q ≡ a * q + q
round a q = add-mul a 1 q ∙ (let one : 1 * q ≡ q = omega arith in ap (λ m. a * q + m) one)

behind_kept : (q n : ℕ) → 1 ≤ q → At q n 0 → At q (n + 1) (q - 1)
behind_kept q n some at = elim (cases_lt 1 q) [
  | inl more ↦ record {
    rounds = at.rounds;
    over = 1;
    is = elim at.left [
      | inl (none, now) ↦ let is = at.is in omega (arith, is, none)
      | inr (some, whole) ↦ absurd (let low = at.low in omega (arith, low, whole))
    ];
    low = more;
    left = inr (omega arith, omega (arith, more));
  }
  | inr one ↦ record {
    rounds = at.rounds + 1;
    over = 0;
    is = elim at.left [
      | inl (none, now) ↦ let is = at.is in let next = round at.rounds q in omega (arith, is, none, next, one, some)
      | inr (some, whole) ↦ absurd (let low = at.low in omega (arith, low, whole))
    ];
    low = omega (arith, some);
    left = inl (refl, omega (arith, one));
  }
]

behind_passed : (q n c : ℕ) → At q n (suc c) → At q (n + 1) c
behind_passed q n c at = elim at.left [
  | inl (none, now) ↦ absurd (omega (arith, now))
  | inr (some, whole) ↦ elim (cases_lt (at.over + 1) q) [
    | inl more ↦ record {
      rounds = at.rounds;
      over = at.over + 1;
      is = let is = at.is in omega (arith, is);
      low = more;
      left = inr (omega arith, omega (arith, whole));
    }
    | inr done ↦ record {
      rounds = at.rounds + 1;
      over = 0;
      is = let is = at.is in let next = round at.rounds q in let low = at.low in omega (arith, is, next, done, low);
      low = let low = at.low in omega (arith, low);
      left = inl (refl, omega (arith, whole, done));
    }
  ]
]

items_from : {X : Type 0} (q n c : ℕ) (xs : List X) (k : ℕ) → 1 ≤ q → At q n c → slice_get (from q n xs) k ≡ slice_get xs (k * q + c)
items_from {X = X} q n c [] k some at = refl
items_from {X = X} q n zero (x ∷ xs) k some at =
    ap (λ b. slice_get (map (λ numbered. numbered.1) (cond b ((n, x) ∷ rest) rest)) k) (kept_at q n at)
    ∙ by (λ j. items_from q (n + 1) (q - 1) xs j some (behind_kept q n some at)) k
  where
    rest : List (ℕ × X)
    rest = filter (λ numbered. numbered.0 % q == 0) (enumerate_from (n + 1) xs)

    by : ((j : ℕ) → slice_get (map (λ numbered. numbered.1) rest) j ≡ slice_get xs (j * q + (q - 1))) → (j : ℕ)
        → slice_get (x ∷ map (λ numbered. numbered.1) rest) j ≡ slice_get (x ∷ xs) (j * q + 0)
    by later zero = let e : 0 ≡ 0 * q + 0 = omega arith in ap (slice_get (x ∷ xs)) e
    by later (suc j) =
        let e : suc (j * q + (q - 1)) ≡ suc j * q + 0 = let next = round j q in let same : j + 1 ≡ suc j = omega arith in let again = ap (λ m. m * q) same in omega (arith, some, next, again) in
        later j ∙ ap (slice_get (x ∷ xs)) e
items_from {X = X} q n (suc c) (x ∷ xs) k some at =
    ap (λ b. slice_get (map (λ numbered. numbered.1) (cond b ((n, x) ∷ rest) rest)) k) (passed_at q n c at)
    ∙ items_from q (n + 1) c xs k some (behind_passed q n c at)
    ∙ (let e : suc (k * q + c) ≡ k * q + suc c = omega arith in ap (slice_get (x ∷ xs)) e)
  where
    rest : List (ℕ × X)
    rest = filter (λ numbered. numbered.0 % q == 0) (enumerate_from (n + 1) xs)

pub thinned_items : {X : Type 0} (q : ℕ) (xs : List X) (k : ℕ) → 1 ≤ q → slice_get (thinned q xs) k ≡ slice_get xs (k * q)
thinned_items q xs k some =
    let start : At q 0 0 = record { rounds = 0; over = 0; is = omega arith; low = omega (arith, some); left = inl (refl, refl) } in
    let e : k * q + 0 ≡ k * q = omega arith in
    items_from q 0 0 xs k some start ∙ ap (slice_get xs) e

-- of two lists, the one that is no longer than the other is no longer when both are thinned
pub thinned_within : {X : Type 0} (q : ℕ) (xs ys : List X) → 1 ≤ q → length xs ≤ length ys → length (thinned q xs) ≤ length (thinned q ys)
thinned_within {X = X} q xs ys some shorter = by (length (thinned q xs)) refl
  where
    by : (n : ℕ) → length (thinned q xs) ≡ n → length (thinned q xs) ≤ length (thinned q ys)
    by zero none = omega (arith, none)
    by (suc n) is = elim (slice_get_cases (thinned q xs) n).1 [
      | inr (high, none) ↦ absurd (omega (arith, high, is))
      | inl (x, low, at, _) ↦
          let here : slice_get xs (n * q) ≡ Some x = sym (thinned_items q xs n some) ∙ at in
          let within = slice_get_within xs (n * q) x here in
          elim (slice_get_cases ys (n * q)).1 [
            | inr (past, none) ↦ absurd (omega (arith, past, within, shorter))
            | inl (y, _, there, _) ↦
                let also = slice_get_within (thinned q ys) n y (thinned_items q ys n some ∙ there) in omega (arith, also, is)
          ]
    ]
