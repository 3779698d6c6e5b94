-- Powers: a power that is beyond the range stays beyond it, and the powers of 1 and of -1.
use Rattle.f77_actions.proofs.Common.{Ok, arith, ◌≡◌, pos, sym, ℤ, false, negsuc, true, ◌∙◌, Bool, Err, refl, ◌<ℤ◌, ◌^◌, ap, lt-ltb, ltb-true, ◌*ℤ◌, ◌<◌, ◌≤◌}
use Rattle.f77_actions.proofs.Common.{int_div, suc, unsigned_abs, zero, ◌≢◌, int_rem, zero-add, ℕ, ◌%◌, ◌*◌, ◌+◌, ◌-◌, ◌/◌, ints, unsigned_abs-mul, fits}
use Rattle.f77_actions.proofs.Common.{in_range, exact_power, power, power_of, Fault, Overflow}
use Rattle.std.proofs.Math.Nat.{div-eq_of_lt, mul-le-mul}
use Rattle.std.proofs.lemmas.Bool.{false≢true}

fits_small : (z : ℤ) → unsigned_abs z < 2 ^ 31 → fits z ≡ true
fits_small (pos n) h = lt-ltb n (2 ^ 31) h
fits_small (negsuc n) h = lt-ltb n (2 ^ 31) (omega arith)

size_fits : (z : ℤ) → fits z ≡ true → unsigned_abs z ≤ 2 ^ 31
size_fits (pos n) h = let e = ltb-true n (2 ^ 31) h in omega arith
size_fits (negsuc n) h = let e = ltb-true n (2 ^ 31) h in omega arith

-- a multiple of a number beyond the range
multiple_beyond : (a z : ℤ) → 2 ≤ unsigned_abs a → fits z ≡ false → fits (a *ℤ z) ≡ false
multiple_beyond a z h out = by (fits (a *ℤ z)) refl
  where
    by : (b : Bool) → fits (a *ℤ z) ≡ b → fits (a *ℤ z) ≡ false
    by false e = e
    by true e =
        let most : unsigned_abs (a *ℤ z) ≤ 2 ^ 31 = size_fits (a *ℤ z) e in
        let product : unsigned_abs (a *ℤ z) ≡ unsigned_abs a * unsigned_abs z = unsigned_abs-mul a z in
        let least : 2 * unsigned_abs z ≤ unsigned_abs a * unsigned_abs z = mul-le-mul h (omega arith) in
        let small : unsigned_abs z < 2 ^ 31 = omega arith in
        absurd (false≢true (sym out ∙ fits_small z small))

power_beyond : (a : ℤ) (m k : ℕ) → 2 ≤ unsigned_abs a → fits (exact_power a m) ≡ false → fits (exact_power a (k + m)) ≡ false
power_beyond a m zero h out = rw zero-add out
power_beyond a m (suc k) h out =
    let e : suc k + m ≡ suc (k + m) = omega arith in
    rw e (multiple_beyond a (exact_power a (k + m)) h (power_beyond a m k h out))

fault_kept : (z w : ℤ) (f : Fault) → (fits z ≡ false → fits w ≡ false) → Err f ≡ in_range z → Err f ≡ in_range w
fault_kept z w f h e = by (fits z) refl
  where
    by : (b : Bool) → fits z ≡ b → Err f ≡ in_range w
    by true q = let x : Err f ≡ Ok z = rw q at e in cc
    by false q = let x : Err f ≡ Err Overflow = rw q at e in rw (h q) x

-- the first product beyond the range, and each later power
pub stays_beyond : (a p : ℤ) (m n : ℕ) (f : Fault) → 2 ≤ unsigned_abs a → p ≡ exact_power a m → m < n → Err f ≡ in_range (a *ℤ p) → Err f ≡ in_range (exact_power a n)
stays_beyond a p m n f h same below e =
    let later : n ≡ (n - suc m) + suc m = omega arith in
    let first : Err f ≡ in_range (exact_power a (suc m)) = rw same at e in
    fault_kept (exact_power a (suc m)) (exact_power a n) f (λ out. rw later (power_beyond a (suc m) (n - suc m) h out)) first

ones : (n : ℕ) → exact_power (pos 1) n ≡ pos 1
ones zero = refl
ones (suc n) = rw (ones n) refl

pub power_of_one : (b : ℤ) → power_of (pos 1) b ≡ Ok (pos 1)
power_of_one (pos n) = rw (ones n) refl
power_of_one (negsuc n) = rw (ones n) refl

-- the even powers of -1, and the odd ones
evens : (n : ℕ) → n % 2 ≡ 0 → exact_power (negsuc 0) n ≡ pos 1
evens zero h = refl
evens (suc zero) h = absurd (omega arith)
evens (suc (suc n)) h = let e = evens n (omega arith) in rw e refl

odds : (n : ℕ) → n % 2 ≢ 0 → exact_power (negsuc 0) n ≡ negsuc 0
odds zero h = absurd (h refl)
odds (suc n) h = let e = evens n (omega arith) in rw e refl

pub even_power : (b : ℤ) → int_rem b (pos 2) ≡ pos 0 → power_of (negsuc 0) b ≡ Ok (pos 1)
even_power (pos n) h = let even : n % 2 ≡ 0 = cc in rw (evens n even) refl
even_power (negsuc n) h = let even : suc n % 2 ≡ 0 = omega (arith, ints) in let e = evens (suc n) even in rw e refl

pub odd_power : (b : ℤ) → int_rem b (pos 2) ≢ pos 0 → power_of (negsuc 0) b ≡ Ok (negsuc 0)
odd_power (pos n) h = let odd : n % 2 ≢ 0 = λ e. h (ap pos e) in rw (odds n odd) refl
odd_power (negsuc n) h = let odd : suc n % 2 ≢ 0 = λ e. h (rw e refl) in let e = odds (suc n) odd in rw e refl

-- 1 over the power of another base than 0, 1 and -1
inverse : (z : ℤ) → 2 ≤ unsigned_abs z → int_div (pos 1) z ≡ pos 0
inverse (pos n) h = let e : 1 / n ≡ 0 = div-eq_of_lt h in rw e refl
inverse (negsuc n) h = let e : 1 / suc n ≡ 0 = div-eq_of_lt h in rw e refl

not_zero : (a : ℤ) (n : ℕ) → 2 ≤ unsigned_abs a → 1 ≤ unsigned_abs (exact_power a n)
not_zero a zero h = omega arith
not_zero a (suc n) h =
    let product = unsigned_abs-mul a (exact_power a n) in
    let least : 2 * 1 ≤ unsigned_abs a * unsigned_abs (exact_power a n) = mul-le-mul h (not_zero a n h) in
    omega arith

inverse_of : (a : ℤ) (n : ℕ) → 2 ≤ unsigned_abs a → power_of a (negsuc n) ≡ Ok (pos 0)
inverse_of a n h =
    let product = unsigned_abs-mul a (exact_power a n) in
    let least : 2 * 1 ≤ unsigned_abs a * unsigned_abs (exact_power a n) = mul-le-mul h (not_zero a n h) in
    let e = inverse (exact_power a (suc n)) (omega arith) in
    rw e refl

pub inverse_power : (a b : ℤ) → 2 ≤ unsigned_abs a → b <ℤ pos 0 → power a b ≡ Ok (pos 0)
inverse_power (pos zero) b h below = absurd (omega arith)
inverse_power (pos (suc a)) (pos n) h below = absurd (omega (arith, ints))
inverse_power (pos (suc a)) (negsuc n) h below = inverse_of (pos (suc a)) n h
inverse_power (negsuc a) (pos n) h below = absurd (omega (arith, ints))
inverse_power (negsuc a) (negsuc n) h below = inverse_of (negsuc a) n h
