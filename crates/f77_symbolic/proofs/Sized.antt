-- Divisors of the same size.
use Rattle.f77_symbolic.proofs.Common.{arith, ◌≡◌, ◌≢◌, ◌%◌, suc, ℤ, pos, negsuc, neg_ℤ, ap, int_rem, unsigned_abs, without_sign}
use Rattle.f77_terms.proofs.Division.{size_apart}

-- a divisor of the same size leaves the same
pub rem_same : (x y z : ℤ) → unsigned_abs z ≡ unsigned_abs y → int_rem x z ≡ int_rem x y
rem_same (pos n) y z is = ap (λ k. pos (n % k)) is
rem_same (negsuc n) y z is = ap (λ k. neg_ℤ (pos (suc n % k))) is

pub apart_same : (y z : ℤ) → unsigned_abs z ≡ unsigned_abs y → y ≢ pos 0 → z ≢ pos 0
apart_same y z is apart none = let some = size_apart y apart in let e = ap unsigned_abs none in absurd (omega (arith, is, some, e))

-- the number without its sign has its size
pub size_same : (y z : ℤ) → z ≡ without_sign y → unsigned_abs z ≡ unsigned_abs y
size_same (pos n) z is = ap unsigned_abs is
size_same (negsuc n) z is = ap unsigned_abs is
