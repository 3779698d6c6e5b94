-- A checked operation on numbers of 32 bits gives the exact number where the range of INTEGER holds it.
use Rattle.f77_actions.proofs.Common.{FitsSigned, Ok, arith, ◌≡◌, pos, ℤ, false, negsuc, true, Bool, refl, w32, ◌^◌, ap, lt-ltb, ltb-true, ◌<◌, int_div, of_z}
use Rattle.f77_actions.proofs.Common.{suc, zero, ◌≢◌, None, Option, Some, fits, in_range, quotient, Overflow}
use Rattle.std.specs.Option.{SomeIff, ok_or}
use Rattle.std.specs.Int.{CanDivide}

fits_where : (z : ℤ) → FitsSigned w32 z → fits z ≡ true
fits_where (pos n) f = lt-ltb n (2 ^ 31) f.sfits
fits_where (negsuc n) f = lt-ltb n (2 ^ 31) f.sfits

where_fits : (z : ℤ) → fits z ≡ true → FitsSigned w32 z
where_fits (pos n) e = record { sfits = ltb-true n (2 ^ 31) e }
where_fits (negsuc n) e = record { sfits = ltb-true n (2 ^ 31) e }

checked_exact : (o : Option ℤ) (z : ℤ) → SomeIff o (FitsSigned w32 z) z → ok_or o Overflow ≡ in_range z
checked_exact (Some x) z h = rw (fits_where z h.0) (ap (λ y. Ok y) h.1)
checked_exact None z h = by (fits z) refl
  where
    by : (b : Bool) → fits z ≡ b → ok_or None Overflow ≡ in_range z
    by true e = absurd (h (where_fits z e))
    by false e = rw e refl

not_zero : (b : ℤ) → FitsSigned w32 b → b ≢ pos 0 → 0 < of_z w32 b
not_zero (pos zero) f h = absurd (h refl)
not_zero (pos (suc n)) f h = omega arith
not_zero (negsuc n) f h = omega (arith, f.sfits)

-- where the divisor is not 0, only the range is in question
quotient_where : (o : Option ℤ) (a b : ℤ) → 0 < of_z w32 b → SomeIff o (CanDivide w32 a b) (int_div a b) → SomeIff o (FitsSigned w32 (int_div a b)) (int_div a b)
quotient_where (Some x) a b positive h = (h.0.1, h.1)
quotient_where None a b positive h = λ f. h (positive, f)

pub checked_quotient : (o : Option ℤ) (a b : ℤ) → FitsSigned w32 b → b ≢ pos 0 → SomeIff o (CanDivide w32 a b) (int_div a b) → ok_or o Overflow ≡ quotient a b
checked_quotient o a (pos zero) f h s = absurd (h refl)
checked_quotient o a (pos (suc n)) f h s = checked_exact o (int_div a (pos (suc n))) (quotient_where o a (pos (suc n)) (not_zero (pos (suc n)) f h) s)
checked_quotient o a (negsuc n) f h s = checked_exact o (int_div a (negsuc n)) (quotient_where o a (negsuc n) (not_zero (negsuc n) f h) s)
