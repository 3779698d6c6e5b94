-- Numbers that stand for values or faults: a value of INTEGER, one of LOGICAL as 0 or 1, or, from
-- 2 ^ 40 on, a fault.
use Rattle.std.specs.Prelude.{◌≡◌, ◌+◌, ◌≤ℤ◌, ◌<ℤ◌, if◌then◌else◌, ℕ, Bool}
use Rattle.std.specs.Prelude.{true, false, not, ℤ, pos, negsuc, Result, Ok, Err}
use Rattle.f77_actions.specs.declared.finish.Fault.{Fault}
use Rattle.f77_actions.specs.declared.finish.Fault.TheVariants.{Overflow, DivideByZero, ZeroPower}
use Rattle.f77_actions.specs.declared.finish.Fault.TheVariants.{BadSubscript, ZeroStep, Undefined, Trapped}
use Rattle.f77_actions.specs.Number.{fits, is_same}

-- faults as numbers, from 0
abbrev pub fault_number : Fault → ℕ
fault_number Undefined = 0
fault_number Overflow = 1
fault_number BadSubscript = 2
fault_number ZeroStep = 3
fault_number Trapped = 4
fault_number DivideByZero = 5
fault_number ZeroPower = 6

-- the number that stands for a fault
abbrev pub code : Fault → ℕ
code fault = 1099511627776 + fault_number fault

-- the number that stands for a value or a fault
abbrev pub coded : Result ℤ Fault → ℤ
coded (Ok z) = z
coded (Err fault) = pos (code fault)

-- a value is in the range of INTEGER
abbrev pub is_fitting : Result ℤ Fault → Bool
is_fitting (Ok z) = fits z
is_fitting (Err fault) = true

-- the number is in the range, or is one that may stand for a fault: nothing lies between them
pub record IsValueOrFault (x : ℤ) : Type 0 where
  pub low : negsuc 2147483647 ≤ℤ x
  pub high : x <ℤ pos 2199023255552
  pub gap : x <ℤ pos 1099511627776 → x ≤ℤ pos 2147483647

-- the number stands for this value or this fault
pub record Encodes (x : ℤ) (r : Result ℤ Fault) : Type 0 where
  pub is : x ≡ coded r
  pub fitting : is_fitting r ≡ true
  pub valid : IsValueOrFault x

-- the number stands for no fault
abbrev pub HasValue : ℤ → Type 0
HasValue x = x <ℤ pos 1099511627776

-- the fault of an operation on these two that has no value: that of the left one, else that of the
-- right one, else Overflow
abbrev pub operation_fault : Result ℤ Fault → Result ℤ Fault → Result ℤ Fault
operation_fault (Err fault) q = Err fault
operation_fault (Ok z) (Err fault) = Err fault
operation_fault (Ok z) (Ok w) = Err Overflow

-- a truth value as a number: 1 or 0
abbrev pub truth_number : Bool → ℤ
truth_number true = pos 1
truth_number false = pos 0

-- the result of a LOGICAL expression, as a number
abbrev pub of_truth : Result Bool Fault → Result ℤ Fault
of_truth (Ok b) = Ok (truth_number b)
of_truth (Err fault) = Err fault

-- the logical operators on truth values as numbers
abbrev pub conjunction : ℤ → ℤ → ℤ
conjunction x y = if is_same x (pos 0) then x else y

abbrev pub disjunction : ℤ → ℤ → ℤ
disjunction x y = if is_same x (pos 0) then y else x

abbrev pub equivalence : ℤ → ℤ → ℤ
equivalence x y = truth_number (is_same x y)

abbrev pub exclusion : ℤ → ℤ → ℤ
exclusion x y = truth_number (not (is_same x y))

abbrev pub negation : ℤ → ℤ
negation x = truth_number (is_same x (pos 0))
