-- Lists that are the same from the item after the n-th on.
use Rattle.mothra_ops.proofs.Common.{◌≡◌, ◌∙◌, ap, sym, List, arith, refl, ℕ, [], ◌+◌, ◌-◌, suc, ◌<◌, slice_get, zero, ◌∷◌, drop, numbered}

item_behind : {X : Type 0} (xs : List X) (n k j : ℕ) → n + k ≡ j → slice_get (drop n xs) k ≡ slice_get xs j
item_behind xs zero k j e = let same : k ≡ j = omega (arith, e) in ap (slice_get xs) same
item_behind [] (suc n) k j e = refl
item_behind (x ∷ xs) (suc n) k zero e = absurd (omega (arith, e))
item_behind (x ∷ xs) (suc n) k (suc j) e = item_behind xs n k j (omega (arith, e))

-- two lists that are the same after their first n items
module _ {X : Type 0} (xs ys : List X) (n : ℕ) (same : drop n xs ≡ drop n ys) where
  pub numbered_behind : (r : ℕ) → n < r → numbered xs r ≡ numbered ys r
  numbered_behind zero behind = absurd (omega arith)
  numbered_behind (suc k) behind =
      let e : n + (k - n) ≡ k = omega arith in
      sym (item_behind xs n (k - n) k e) ∙ ap (λ (zs : List X). slice_get zs (k - n)) same ∙ item_behind ys n (k - n) k e
