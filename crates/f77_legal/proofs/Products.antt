-- Products that are clipped on the way.
use Rattle.f77_legal.proofs.Common.{◌≡◌, ap, sym, List, refl, ℕ, length, arith, ◌+◌, suc, ◌<◌, drop, get_or, ◌≤◌, zero, inr, inl, ◌⊎◌, min, add-one, drop-cons}
use Rattle.f77_legal.proofs.Common.{◌*◌, nat_tests, product}
use Rattle.std.proofs.Math.Nat.{mul_assoc}

-- a product that was clipped on the way
clip_product : (n q top most : ℕ) → most ≤ top → min (min n top * q) most ≡ min (n * q) most
clip_product n zero top most h = omega arith
clip_product n (suc q) top most h = by (cases n top)
  where
    cases : (a b : ℕ) → (a ≤ b) ⊎ (b < a)
    cases a b = grind (arith, nat_tests)

    by : (n ≤ top) ⊎ (top < n) → min (min n top * suc q) most ≡ min (n * suc q) most
    by (inl p) = let f : min n top ≡ n = omega arith in rw f refl
    by (inr p) =
        let f : min n top ≡ top = omega arith in
        let x : top ≤ top * suc q = omega arith in
        let y : n ≤ n * suc q = omega arith in
        rw f (omega arith)

-- one bound more
pub product_step : (p f r i most top : ℕ) (bounds : List ℕ) → most ≤ top → i < length bounds → f ≡ get_or bounds i 0 → r ≡ min (p * f) top
    → min (p * product (drop i bounds)) most ≡ min (r * product (drop (i + 1) bounds)) most
product_step p f r i most top bounds h q e g =
    let d : product (drop i bounds) ≡ f * product (drop (i + 1) bounds) = rw (add-one, e) (ap product (drop-cons bounds i 0 q)) in
    rw (d, g, ← mul_assoc) (sym (clip_product (p * f) (product (drop (i + 1) bounds)) top most h))
