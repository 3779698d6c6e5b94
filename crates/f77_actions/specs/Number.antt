-- INTEGER values: the exact number, then the test against the range (ANSI X3.9-1978, 4.3, 6.1.5 and
-- 15.10).
use Rattle.std.specs.Prelude.{◌^◌, ◌==◌, if◌then◌else◌, ◌∷◌, ◌+ℤ◌, ◌-ℤ◌, ◌*ℤ◌, ℕ, zero, suc, Bool, true}
use Rattle.std.specs.Prelude.{false, nat_lt, List, [], ℤ, pos, negsuc, int_div, int_rem, Result, Ok, Err}
use Rattle.f77_tree.specs.declared.intrinsic.Intrinsic.{Intrinsic}
use Rattle.f77_tree.specs.declared.intrinsic.Intrinsic.TheVariants.{Mod, Iabs, Min0, Max0}
use Rattle.f77_tree.specs.declared.operator.Sign.{Sign}
use Rattle.f77_tree.specs.declared.operator.Sign.TheVariants.{Plus, Minus}
use Rattle.f77_actions.specs.declared.finish.Fault.{Fault}
use Rattle.f77_actions.specs.declared.finish.Fault.TheVariants.{Overflow, DivideByZero, ZeroPower, Undefined}

-- INTEGER holds the number: -2147483648 to 2147483647 (4.3)
abbrev pub fits : ℤ → Bool
fits (pos n) = nat_lt n (2 ^ 31)
fits (negsuc n) = nat_lt n (2 ^ 31)

-- Rule: numbers (4.3, 6.1, 15.10)
-- an exact number, tested against the range (4.3)
abbrev pub in_range : ℤ → Result ℤ Fault
in_range z = if fits z then Ok z else Err Overflow

-- Rule: numbers (4.3, 6.1, 15.10)
-- the quotient, truncated toward zero (6.1.5)
abbrev pub quotient : ℤ → ℤ → Result ℤ Fault
quotient a (pos zero) = Err DivideByZero
quotient a (pos (suc n)) = in_range (int_div a (pos (suc n)))
quotient a (negsuc n) = in_range (int_div a (negsuc n))

-- Rule: numbers (4.3, 6.1, 15.10)
-- MOD: a minus b times the truncated quotient (15.10)
abbrev pub modulus : ℤ → ℤ → Result ℤ Fault
modulus a (pos zero) = Err DivideByZero
modulus a (pos (suc n)) = in_range (int_rem a (pos (suc n)))
modulus a (negsuc n) = in_range (int_rem a (negsuc n))

-- the exact power for an exponent of 0 or more (6.1)
abbrev pub exact_power : ℤ → ℕ → ℤ
exact_power a zero = pos 1
exact_power a (suc n) = a *ℤ exact_power a n

-- the power of a base that is not zero; for a negative exponent 1 over the exact power, truncated
-- (6.1.5)
abbrev pub power_of : ℤ → ℤ → Result ℤ Fault
power_of a (pos n) = in_range (exact_power a n)
power_of a (negsuc n) = in_range (int_div (pos 1) (exact_power a (suc n)))

-- Rule: numbers (4.3, 6.1, 15.10)
-- the power; ZeroPower where the base is 0 and the exponent at most 0 (6.1)
abbrev pub power : ℤ → ℤ → Result ℤ Fault
power (pos zero) (pos zero) = Err ZeroPower
power (pos zero) (pos (suc n)) = Ok (pos zero)
power (pos zero) (negsuc n) = Err ZeroPower
power (pos (suc a)) b = power_of (pos (suc a)) b
power (negsuc a) b = power_of (negsuc a) b

-- the negative of a number, not tested against the range (6.1)
abbrev pub negated : ℤ → ℤ
negated z = pos zero -ℤ z

-- the value behind a sign
abbrev pub signed : Sign → ℤ → Result ℤ Fault
signed Plus z = Ok z
signed Minus z = in_range (negated z)

-- the first number is less than the second (6.3)
abbrev pub is_below : ℤ → ℤ → Bool
is_below (pos a) (pos b) = nat_lt a b
is_below (pos a) (negsuc b) = false
is_below (negsuc a) (pos b) = true
is_below (negsuc a) (negsuc b) = nat_lt b a

-- the numbers are equal (6.3)
abbrev pub is_same : ℤ → ℤ → Bool
is_same (pos a) (pos b) = a == b
is_same (pos a) (negsuc b) = false
is_same (negsuc a) (pos b) = false
is_same (negsuc a) (negsuc b) = a == b

-- the absolute value, not tested against the range
abbrev pub without_sign : ℤ → ℤ
without_sign (pos n) = pos n
without_sign (negsuc n) = pos (suc n)

-- the least of these numbers
abbrev pub least : ℤ → List ℤ → ℤ
least a [] = a
least a (b ∷ bs) = least (if is_below b a then b else a) bs

-- the greatest of these numbers
abbrev pub greatest : ℤ → List ℤ → ℤ
greatest a [] = a
greatest a (b ∷ bs) = greatest (if is_below a b then b else a) bs

-- the value of a call; no legal program has another number of arguments
abbrev pub called : Intrinsic → List ℤ → Result ℤ Fault
called Mod (a ∷ (b ∷ [])) = modulus a b
called Iabs (a ∷ []) = in_range (without_sign a)
called Min0 (a ∷ rest) = Ok (least a rest)
called Max0 (a ∷ rest) = Ok (greatest a rest)
called f rest = Err Undefined

-- Rule: numbers (4.3, 6.1, 15.10)
-- the trip count of a DO, which is 0 where the number is negative (11.10)
abbrev pub trip_count : ℤ → ℤ → ℤ → ℕ
trip_count first last step = above_zero (int_div (last -ℤ first +ℤ step) step)
  where
    above_zero : ℤ → ℕ
    above_zero (pos n) = n
    above_zero (negsuc n) = 0
