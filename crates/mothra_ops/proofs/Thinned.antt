-- A list of which each q-th item is kept, and one more item.
use Rattle.mothra_ops.proofs.Common.{◌≡◌, ◌∙◌, ap, List, map, arith, length, ℕ, [], ◌+◌, suc, ◌∷◌, ◌++◌, false, cond, filter, ◌%◌, append-nil, ◌==◌, ◌≢◌}
use Rattle.mothra_ops.proofs.Common.{nat_tests, map-append, filter-append, enumerate_from, thinned}

enumerate_push : {X : Type 0} (n : ℕ) (xs : List X) (x : X) → enumerate_from n (xs ++ x ∷ []) ≡ enumerate_from n xs ++ (n + length xs, x) ∷ []
enumerate_push n [] x = let e : n ≡ n + 0 = omega arith in ap (λ (k : ℕ). (k, x) ∷ []) e
enumerate_push n (y ∷ ys) x =
    let e : n + 1 + length ys ≡ n + suc (length ys) = omega arith in
    ap (λ l. (n, y) ∷ l) (enumerate_push (n + 1) ys x ∙ ap (λ (k : ℕ). enumerate_from (n + 1) ys ++ (k, x) ∷ []) e)

not_zero : (m : ℕ) → m ≢ 0 → (m == 0) ≡ false
not_zero m some = grind (arith, nat_tests)

module _ {X : Type 0} (q : ℕ) (xs : List X) (x : X) where
  pushed : enumerate_from 0 (xs ++ x ∷ []) ≡ enumerate_from 0 xs ++ (length xs, x) ∷ []
  pushed = let e : 0 + length xs ≡ length xs = omega arith in enumerate_push 0 xs x ∙ ap (λ (k : ℕ). enumerate_from 0 xs ++ (k, x) ∷ []) e

  one_more : thinned q (xs ++ x ∷ []) ≡ thinned q xs ++ map (λ (numbered : ℕ × X). numbered.1) (cond (length xs % q == 0) ((length xs, x) ∷ []) [])
  one_more =
      ap (λ l. map (λ (numbered : ℕ × X). numbered.1) (filter (λ (numbered : ℕ × X). numbered.0 % q == 0) l)) pushed
      ∙ ap (map (λ (numbered : ℕ × X). numbered.1)) (filter-append (λ (numbered : ℕ × X). numbered.0 % q == 0) (enumerate_from 0 xs) ((length xs, x) ∷ []))
      ∙ map-append (λ (numbered : ℕ × X). numbered.1) (filter (λ (numbered : ℕ × X). numbered.0 % q == 0) (enumerate_from 0 xs)) (cond (length xs % q == 0) ((length xs, x) ∷ []) [])

  -- the item is kept if q divides the number of items before it
  pub thinned_kept : length xs % q ≡ 0 → thinned q (xs ++ x ∷ []) ≡ thinned q xs ++ x ∷ []
  thinned_kept none =
      one_more ∙ ap (λ (m : ℕ). thinned q xs ++ map (λ (numbered : ℕ × X). numbered.1) (cond (m == 0) ((length xs, x) ∷ []) [])) none

  -- the item is passed over if q does not divide the number of items before it
  pub thinned_passed : length xs % q ≢ 0 → thinned q (xs ++ x ∷ []) ≡ thinned q xs
  thinned_passed some =
      one_more ∙ ap (λ b. thinned q xs ++ map (λ (numbered : ℕ × X). numbered.1) (cond b ((length xs, x) ∷ []) [])) (not_zero (length xs % q) some)
      ∙ append-nil (thinned q xs)
