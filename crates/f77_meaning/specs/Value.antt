-- The values of variables, arrays and expressions (ANSI X3.9-1978, sections 5 and 6).
use Rattle.std.specs.Prelude.{◌&&◌, ◌||◌, if◌then◌else◌, ◌∷◌, ◌+ℤ◌, ◌-ℤ◌, ◌*ℤ◌, ℕ, Bool, false}
use Rattle.std.specs.Prelude.{not, List, [], Option, Some, slice_get, slice_set, ℤ, pos, Result, Ok, Err}
use Rattle.std.specs.Option.{option_and_then}
use Rattle.std.specs.Str.{bytes_eq}
use Rattle.f77_tree.specs.Operator.{is_relation}
use Rattle.f77_tree.specs.Tree.{Tree, Trees}
use Rattle.f77_tree.specs.declared.operator.Operator.{Operator}
use Rattle.f77_tree.specs.declared.operator.Operator.TheVariants.{Equivalent, NotEquivalent, Or, And, Less}
use Rattle.f77_tree.specs.declared.operator.Operator.TheVariants.{LessOrEqual, Equal, NotEqual, GreaterOrEqual}
use Rattle.f77_tree.specs.declared.operator.Operator.TheVariants.{Greater, Add, Subtract, Multiply, Divide, Power}
use Rattle.f77_tree.specs.declared.tree.Kind.{Kind}
use Rattle.f77_tree.specs.declared.tree.Kind.TheVariants.{Integer, Logical}
use Rattle.f77_legal.specs.Names.{Symbol}
use Rattle.f77_actions.specs.declared.finish.Fault.{Fault}
use Rattle.f77_actions.specs.declared.finish.Fault.TheVariants.{Undefined}
use Rattle.f77_actions.specs.Number.{in_range, quotient, power, signed, called, is_below, is_same}
use Rattle.f77_actions.specs.Value.{given, both, whole, logic, element, same_truth, pushed}
use Rattle.f77_actions.specs.declared.value.Value.TheVariants as held
use Rattle.f77_actions.specs.declared.value.Value.{Value}

-- the elements of each name, each with a value or without: a variable has one element, and in an
-- array the first subscript varies fastest
abbrev pub Store : Type 0
Store = Symbol → List (Option Value)

-- the store after element k of a name has got this value
abbrev pub store_with : Store → Symbol → ℕ → Value → Store
store_with store name k v =
    λ other. if bytes_eq name other then slice_set (store other) k (Some v) else store other

-- An arithmetic operator, a relation and a logical operator on values. No legal program has another
-- operator in their places.
abbrev pub arithmetic : Operator → ℤ → ℤ → Result ℤ Fault
arithmetic Add a b = in_range (a +ℤ b)
arithmetic Subtract a b = in_range (a -ℤ b)
arithmetic Multiply a b = in_range (a *ℤ b)
arithmetic Divide a b = quotient a b
arithmetic Power a b = power a b
arithmetic _ a b = Err Undefined

abbrev pub related : Operator → ℤ → ℤ → Bool
related Less a b = is_below a b
related LessOrEqual a b = not (is_below b a)
related Equal a b = is_same a b
related NotEqual a b = not (is_same a b)
related GreaterOrEqual a b = not (is_below a b)
related Greater a b = is_below b a
related _ a b = false

abbrev pub connected : Operator → Bool → Bool → Bool
connected And a b = a && b
connected Or a b = a || b
connected Equivalent a b = same_truth a b
connected NotEquivalent a b = not (same_truth a b)
connected _ a b = false

-- The value of an INTEGER expression, where names have these bounds. No legal program asks for that
-- of a LOGICAL one, and only a program that was made of lines has a constant beyond the range.
abbrev mutual
  pub number : (Symbol → List ℕ) → Store → Tree → Result ℤ Fault
  number bounds store (Tree.Number n) = in_range (pos n)
  number bounds store (Tree.Truth b) = Err Undefined
  number bounds store (Tree.Reference name items) =
      given (given (numbers bounds store items) (element (bounds name)))
      (λ k. whole (option_and_then (λ cell. cell) (slice_get (store name) k)))
  number bounds store (Tree.Call f items) = given (numbers bounds store items) (called f)
  number bounds store (Tree.Signed sign t) = given (number bounds store t) (signed sign)
  number bounds store (Tree.Not t) = Err Undefined
  number bounds store (Tree.Binary op a b) =
      both (arithmetic op) (number bounds store a) (number bounds store b)
  number bounds store (Tree.ZeroPush t) = given (number bounds store t) pushed

  pub numbers : (Symbol → List ℕ) → Store → Trees → Result (List ℤ) Fault
  numbers bounds store Trees.None = Ok []
  numbers bounds store (Trees.Then t ts) =
      given (number bounds store t) (λ z. given (numbers bounds store ts) (λ zs. Ok (z ∷ zs)))

-- the place, in its array, of the element that a reference names (section 5)
abbrev pub place : (Symbol → List ℕ) → Store → Symbol → Trees → Result ℕ Fault
place bounds store name items = given (numbers bounds store items) (element (bounds name))

-- Rule: a step (10, 11)
-- the value of a LOGICAL expression (section 6)
abbrev pub truth : (Symbol → List ℕ) → Store → Tree → Result Bool Fault
truth bounds store (Tree.Truth b) = Ok b
truth bounds store (Tree.Reference name items) = given (place bounds store name items)
    (λ k. logic (option_and_then (λ cell. cell) (slice_get (store name) k)))
truth bounds store (Tree.Not t) = given (truth bounds store t) (λ b. Ok (not b))
truth bounds store (Tree.Binary op a b) =
    if is_relation op
    then both (λ x y. Ok (related op x y)) (number bounds store a) (number bounds store b)
    else both (λ x y. Ok (connected op x y)) (truth bounds store a) (truth bounds store b)
truth bounds store _ = Err Undefined

-- Rule: a step (10, 11)
-- the value of an expression of this kind (section 6)
abbrev pub value : Kind → (Symbol → List ℕ) → Store → Tree → Result Value Fault
value Integer bounds store t = given (number bounds store t) (λ z. Ok (held.Number z))
value Logical bounds store t = given (truth bounds store t) (λ b. Ok (held.Truth b))
