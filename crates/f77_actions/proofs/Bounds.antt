-- Values within the range, and beyond it the numbers that stand for faults.
use Rattle.f77_actions.proofs.Common.{FitsSigned, w64, Ok, arith, ◌≡◌, pos, ℤ, false, negsuc, true, Bool, Err, refl, ◌<ℤ◌, ◌^◌, ◌≤ℤ◌, ap, ltb-true, ◌<◌, ◌≤◌}
use Rattle.f77_actions.proofs.Common.{of_z, to_z, ints, fits, Encodes, IsValueOrFault, code, fault_number, truth_number, Fault, Overflow, BadSubscript}
use Rattle.f77_actions.proofs.Common.{DivideByZero, Trapped, Undefined, ZeroPower, ZeroStep}
use lib.Signed.{le_z, lt_z}

-- the range, as bounds
pub record Within (z : ℤ) : Type 0 where
  pub low : negsuc 2147483647 ≤ℤ z
  pub high : z ≤ℤ pos 2147483647

pub within : (z : ℤ) → fits z ≡ true → Within z
within (pos n) e = let below : n < 2 ^ 31 = ltb-true n (2 ^ 31) e in record { low = omega (arith, ints); high = omega (arith, ints) }
within (negsuc n) e = let below : n < 2 ^ 31 = ltb-true n (2 ^ 31) e in record { low = omega (arith, ints); high = omega (arith, ints) }

pub few_faults : (f : Fault) → fault_number f ≤ 6
few_faults Undefined = omega arith
few_faults Overflow = omega arith
few_faults BadSubscript = omega arith
few_faults ZeroStep = omega arith
few_faults Trapped = omega arith
few_faults DivideByZero = omega arith
few_faults ZeroPower = omega arith

pub valid_value : (z : ℤ) → fits z ≡ true → IsValueOrFault z
valid_value z e = let w = within z e in record { low = w.low; high = omega (arith, ints); gap = λ h. w.high }

pub valid_code : (f : Fault) → IsValueOrFault (pos (code f))
valid_code f = let few = few_faults f in record { low = omega (arith, ints); high = omega (arith, ints); gap = λ h. absurd (omega (arith, ints)) }

pub encodes_value : (z : ℤ) → fits z ≡ true → Encodes z (Ok z)
encodes_value z e = record { is = refl; fitting = e; valid = valid_value z e }

pub encodes_fault : (f : Fault) → Encodes (pos (code f)) (Err f)
encodes_fault f = record { is = refl; fitting = refl; valid = valid_code f }

pub fits_truth : (b : Bool) → fits (truth_number b) ≡ true
fits_truth true = refl
fits_truth false = refl

-- tests of the code
pub at_least : (y : ℤ) → FitsSigned w64 y → le_z (pos 1099511627776) (to_z w64 (of_z w64 y)) ≡ true → pos 1099511627776 ≤ℤ y
at_least y f e = grind (arith, ints)

pub not_least : (y : ℤ) → FitsSigned w64 y → le_z (pos 1099511627776) (to_z w64 (of_z w64 y)) ≡ false → y <ℤ pos 1099511627776
not_least y f e = grind (arith, ints)

pub below_none : (y : ℤ) → FitsSigned w64 y → lt_z (to_z w64 (of_z w64 y)) (pos 1099511627776) ≡ true → y <ℤ pos 1099511627776
below_none y f e = grind (arith, ints)

pub bits_zero : (x : ℤ) → FitsSigned w64 x → of_z w64 x ≡ 0 → x ≡ pos 0
bits_zero (pos n) f e = ap pos e
bits_zero (negsuc n) f e = let small = f.sfits in absurd (omega (arith, ints))

pub zero_bits : (x : ℤ) → x ≡ pos 0 → of_z w64 x ≡ 0
zero_bits x e = ap (of_z w64) e
