-- The values of resolved expressions over slots.
use Rattle.std.specs.Prelude.{◌+◌, ◌*◌, ◌&&◌, ◌||◌, if◌then◌else◌, ◌∷◌, ◌+ℤ◌, ◌-ℤ◌, ◌*ℤ◌}
use Rattle.std.specs.Prelude.{ℕ, Bool, true, not, nat_lt, List, [], Option, slice_get, ℤ, Result, Ok, Err}
use Rattle.std.specs.Option.{option_and_then}
use Rattle.f77_actions.specs.declared.expression.Arithmetic.{Arithmetic}
use Rattle.f77_actions.specs.declared.expression.Arithmetic.TheVariants as arithmetic
use Rattle.f77_actions.specs.declared.expression.Relation.{Relation}
use Rattle.f77_actions.specs.declared.expression.Relation.TheVariants as relation
use Rattle.f77_actions.specs.declared.expression.Connective.{Connective}
use Rattle.f77_actions.specs.declared.expression.Connective.TheVariants as connective
use Rattle.f77_actions.specs.declared.expression.Element.{Element, Variable, Vector', Matrix'}
use Rattle.f77_actions.specs.declared.expression.Number.{Number, Constant, TooLarge, Negated'}
use Rattle.f77_actions.specs.declared.expression.Number.{Absolute', ZeroPush', Binary'}
use Rattle.f77_actions.specs.declared.expression.Number as number
use Rattle.f77_actions.specs.declared.expression.Condition.{Condition, Not', Related, Connected'}
use Rattle.f77_actions.specs.declared.expression.Condition as condition
use Rattle.f77_actions.specs.declared.finish.Fault.{Fault}
use Rattle.f77_actions.specs.declared.finish.Fault.TheVariants.{Overflow}
use Rattle.f77_actions.specs.declared.value.Value.{Value}
use Rattle.f77_actions.specs.Number.{in_range, quotient, modulus, power, negated, without_sign, is_below, is_same}
use Rattle.f77_actions.specs.Value.{given, both, whole, logic, element, same_truth, pushed}

-- the value of a slot, if it has one
abbrev pub held_in : List (Option Value) → ℕ → Option Value
held_in cells k = option_and_then (λ cell. cell) (slice_get cells k)

-- an operation on two numbers
abbrev pub calculated : Arithmetic → ℤ → ℤ → Result ℤ Fault
calculated arithmetic.Add a b = in_range (a +ℤ b)
calculated arithmetic.Subtract a b = in_range (a -ℤ b)
calculated arithmetic.Multiply a b = in_range (a *ℤ b)
calculated arithmetic.Divide a b = quotient a b
calculated arithmetic.Power a b = power a b
calculated arithmetic.Modulus a b = modulus a b
calculated arithmetic.Least a b = Ok (if is_below b a then b else a)
calculated arithmetic.Greatest a b = Ok (if is_below a b then b else a)

-- a relation of two numbers
abbrev pub compared : Relation → ℤ → ℤ → Bool
compared relation.Less a b = is_below a b
compared relation.LessOrEqual a b = not (is_below b a)
compared relation.Equal a b = is_same a b
compared relation.NotEqual a b = not (is_same a b)
compared relation.GreaterOrEqual a b = not (is_below a b)
compared relation.Greater a b = is_below b a

-- a logical operator on two truth values
abbrev pub joined : Connective → Bool → Bool → Bool
joined connective.And a b = a && b
joined connective.Or a b = a || b
joined connective.Equivalent a b = same_truth a b
joined connective.NotEquivalent a b = not (same_truth a b)

abbrev mutual
  -- the slot of a variable or an array element
  pub slot_in : List (Option Value) → Element → Result ℕ Fault
  slot_in cells (Variable slot) = Ok slot
  slot_in cells (Vector' first bound p x) =
      given (number_in cells x) (λ z. given (element (bound ∷ []) (z ∷ [])) (λ k. Ok (first + k)))
  slot_in cells (Matrix' first rows columns p x q y) =
      given (number_in cells x) (λ z. given (number_in cells y)
      (λ w. given (element (rows ∷ (columns ∷ [])) (z ∷ (w ∷ []))) (λ k. Ok (first + k))))

  -- the value of an INTEGER expression
  pub number_in : List (Option Value) → Number → Result ℤ Fault
  number_in cells (Constant z) = Ok z
  number_in cells TooLarge = Err Overflow
  number_in cells (number.Element e) = given (slot_in cells e) (λ k. whole (held_in cells k))
  number_in cells (Negated' p x) = given (number_in cells x) (λ z. in_range (negated z))
  number_in cells (Absolute' p x) = given (number_in cells x) (λ z. in_range (without_sign z))
  number_in cells (ZeroPush' p x) = given (number_in cells x) pushed
  number_in cells (Binary' op p x q y) =
      both (calculated op) (number_in cells x) (number_in cells y)

-- the value of a LOGICAL expression
abbrev pub truth_in : List (Option Value) → Condition → Result Bool Fault
truth_in cells (condition.Constant b) = Ok b
truth_in cells (condition.Element e) = given (slot_in cells e) (λ k. logic (held_in cells k))
truth_in cells (Not' p x) = given (truth_in cells x) (λ b. Ok (not b))
truth_in cells (Related op x y) =
    both (λ a b. Ok (compared op a b)) (number_in cells x) (number_in cells y)
truth_in cells (Connected' op p x q y) =
    both (λ a b. Ok (joined op a b)) (truth_in cells x) (truth_in cells y)

-- the slots that an expression may name are among the first n
abbrev mutual
  pub element_within : ℕ → Element → Bool
  element_within n (Variable slot) = nat_lt slot n
  element_within n (Vector' first bound p x) = not (nat_lt n (first + bound)) && number_within n x
  element_within n (Matrix' first rows columns p x q y) =
      not (nat_lt n (first + rows * columns)) && (number_within n x && number_within n y)

  pub number_within : ℕ → Number → Bool
  number_within n (Constant z) = true
  number_within n TooLarge = true
  number_within n (number.Element e) = element_within n e
  number_within n (Negated' p x) = number_within n x
  number_within n (Absolute' p x) = number_within n x
  number_within n (ZeroPush' p x) = number_within n x
  number_within n (Binary' op p x q y) = number_within n x && number_within n y

abbrev pub condition_within : ℕ → Condition → Bool
condition_within n (condition.Constant b) = true
condition_within n (condition.Element e) = element_within n e
condition_within n (Not' p x) = condition_within n x
condition_within n (Related op x y) = number_within n x && number_within n y
condition_within n (Connected' op p x q y) = condition_within n x && condition_within n y
