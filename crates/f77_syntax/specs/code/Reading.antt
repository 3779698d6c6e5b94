-- Reading from left to right: an operand, and then operators with their right operands.
-- Private functions and proofs alone cite what stands here.
use Rattle.std.specs.Prelude.{ℕ, zero, suc, List, [], ◌∷◌, length, true, false, ◌&&◌, nat_le}
use Rattle.std.specs.Prelude.{◌==◌, if◌then◌else◌, codes, Option, Some, None, unwrap_or}
use Rattle.std.specs.Str.Parse.{digits_value}
use Rattle.f77_tree.specs.declared.operator.Operator.{Operator}
use Rattle.f77_tree.specs.declared.operator.Operator.TheVariants.{Equivalent, NotEquivalent, Or, And, Less}
use Rattle.f77_tree.specs.declared.operator.Operator.TheVariants.{LessOrEqual, Equal, NotEqual, GreaterOrEqual}
use Rattle.f77_tree.specs.declared.operator.Operator.TheVariants.{Greater, Add, Subtract, Multiply, Divide, Power}
use Rattle.f77_tree.specs.declared.operator.Sign.{Sign}
use Rattle.f77_tree.specs.declared.operator.Sign.TheVariants.{Plus, Minus}
use Rattle.f77_tree.specs.declared.intrinsic.Intrinsic.{Intrinsic}
use Rattle.f77_tree.specs.Intrinsic.{function_named}
use Rattle.f77_tree.specs.Operator.{symbol, level, left_level, right_level}
use Rattle.f77_tree.specs.Tree.{Tree, Trees}
use Rattle.f77_tree.specs.Grammar.{is_digit, is_name, is_number, word, past_word}
use Rattle.f77_syntax.specs.Reading.{◌>>=◌, strip}

-- the digits at the front of a text
abbrev pub digits : List ℕ → List ℕ
digits [] = []
digits (c ∷ s) = if is_digit c then c ∷ digits s else []

abbrev pub past_digits : List ℕ → List ℕ
past_digits [] = []
past_digits (c ∷ s) = if is_digit c then past_digits s else c ∷ s

-- all operators; one stands before another whose text is its beginning
abbrev pub operators : List Operator
operators =
    Power ∷ Multiply ∷ Divide ∷ Add ∷ Subtract
    ∷ Less ∷ LessOrEqual ∷ Equal ∷ NotEqual ∷ GreaterOrEqual ∷ Greater ∷ And ∷ Or ∷ Equivalent ∷ NotEquivalent ∷ []

abbrev pub or_operator : Operator → Option (List ℕ) → Option (Operator × List ℕ) → Option (Operator × List ℕ)
or_operator op None other = other
or_operator op (Some r) other = Some (op, r)

abbrev pub first_operator : List Operator → List ℕ → Option (Operator × List ℕ)
first_operator [] s = None
first_operator (op ∷ ops) s = or_operator op (strip (symbol op) s) (first_operator ops s)

-- the operator at the front, and the text behind it
unfoldable pub operator_at : List ℕ → Option (Operator × List ℕ)
operator_at s = first_operator operators s

-- how expressions, the rest of an expression and lists are read
pub record Readers : Type 0 where
  pub expr : ℕ → List ℕ → Option (Tree × List ℕ)
  pub climb : ℕ → Tree → ℕ → List ℕ → Option (Tree × List ℕ)
  pub items : List ℕ → Option (Trees × List ℕ)

-- the text behind this byte, if the text begins with it
abbrev pub tree_after : ℕ → List ℕ → Option (List ℕ)
tree_after b [] = None
tree_after b (c ∷ s) = if c == b then Some s else None

-- by the text behind something, if it stands at the front, or else another answer
abbrev pub behind : {A : Type 0} → Option (List ℕ) → (List ℕ → Option A) → Option A → Option A
behind (Some r) read other = read r
behind None read other = other

-- the text behind the comma at its front, or the text itself
abbrev pub past_comma : List ℕ → List ℕ
past_comma s = unwrap_or (tree_after 44 s) s

-- the text behind a closing parenthesis
abbrev pub close_at : List ℕ → Option (List ℕ)
close_at s = tree_after 41 s

-- the value, if nothing stands behind it
abbrev pub value_ended : {A : Type 0} → A → List ℕ → Option A
value_ended x rest = if length rest == 0 then Some x else None

-- an expression of level 9, if a closing parenthesis stands behind it
abbrev pub closed : Tree → List ℕ → Option (Tree × ℕ × List ℕ)
closed t s = close_at s >>= λ r. Some (t, 9, r)

abbrev pub enclosed_at : Readers → List ℕ → Option (Tree × ℕ × List ℕ)
enclosed_at R s = R.expr 1 s >>= λ x. closed x.0 x.1

abbrev pub signed_tree_at : Readers → ℕ → Sign → List ℕ → Option (Tree × ℕ × List ℕ)
signed_tree_at R w sign s = if nat_le w 6 then (R.expr 7 s >>= λ x. Some (Tree.Signed sign x.0, 6, x.1)) else None

abbrev pub negated_at : Readers → ℕ → List ℕ → Option (Tree × ℕ × List ℕ)
negated_at R w s = if nat_le w 4 then (R.expr 5 s >>= λ x. Some (Tree.Not x.0, 4, x.1)) else None

-- what begins with a dot, from the texts behind .TRUE., .FALSE. and .NOT.
abbrev pub dotted_by : Readers → ℕ → Option (List ℕ) → Option (List ℕ) → Option (List ℕ) → Option (Tree × ℕ × List ℕ)
dotted_by R w (Some r) other third = Some (Tree.Truth true, 9, r)
dotted_by R w None (Some r) third = Some (Tree.Truth false, 9, r)
dotted_by R w None None (Some r) = negated_at R w r
dotted_by R w None None None = None

abbrev pub dotted_at : Readers → ℕ → List ℕ → Option (Tree × ℕ × List ℕ)
dotted_at R w s = dotted_by R w (strip (codes ".TRUE.") s) (strip (codes ".FALSE.") s) (strip (codes ".NOT.") s)

-- a name with a list behind it: a call or a reference
abbrev pub listed_by : Option Intrinsic → List ℕ → Trees → Tree
listed_by None name items = Tree.Reference name items
listed_by (Some f) name items = Tree.Call f items

abbrev pub function_listed : List ℕ → Trees → Tree
function_listed name items = listed_by (function_named name) name items

abbrev pub named_at : Readers → List ℕ → List ℕ → Option (Tree × ℕ × List ℕ)
named_at R name [] = Some (Tree.Reference name Trees.None, 9, [])
named_at R name (c ∷ r) =
    if c == 40 then (R.items r >>= λ x. closed (function_listed name x.0) x.1)
    else Some (Tree.Reference name Trees.None, 9, c ∷ r)

abbrev pub word_tree_at : Readers → List ℕ → List ℕ → Option (Tree × ℕ × List ℕ)
word_tree_at R name r =
    if is_number name then Some (Tree.Number (digits_value 10 name), 9, r)
    else (if is_name name then named_at R name r
    else None)

-- what an expression begins with, its level, and the text behind it
unfoldable pub start_at : Readers → ℕ → List ℕ → Option (Tree × ℕ × List ℕ)
start_at R w [] = None
start_at R w (c ∷ s) =
    if c == 40 then enclosed_at R s
    else if c == 43 then signed_tree_at R w Plus s
    else if c == 45 then signed_tree_at R w Minus s
    else if c == 46 then dotted_at R w (c ∷ s)
    else word_tree_at R (word (c ∷ s)) (past_word (c ∷ s))

unfoldable pub expr_at : Readers → ℕ → List ℕ → Option (Tree × List ℕ)
expr_at R w s = start_at R w s >>= λ x. R.climb w x.0 x.1 x.2

-- t, of level own, has been read: the operators behind it with their right operands, while their levels are w or higher
abbrev pub climb_on : Readers → ℕ → Tree → ℕ → List ℕ → Option (Operator × List ℕ) → Option (Tree × List ℕ)
climb_on R w t own s None = Some (t, s)
climb_on R w t own s (Some x) =
    if nat_le w (level x.0) && nat_le (left_level x.0) own
    then (R.expr (right_level x.0) x.1 >>= λ y. R.climb w (Tree.Binary x.0 t y.0) (level x.0) y.1)
    else Some (t, s)

unfoldable pub climb_at : Readers → ℕ → Tree → ℕ → List ℕ → Option (Tree × List ℕ)
climb_at R w t own s = climb_on R w t own s (operator_at s)

abbrev pub more_at : Readers → Tree → List ℕ → Option (Trees × List ℕ)
more_at R t [] = Some (Trees.Then t Trees.None, [])
more_at R t (c ∷ r) =
    if c == 44 then (R.items r >>= λ x. Some (Trees.Then t x.0, x.1))
    else Some (Trees.Then t Trees.None, c ∷ r)

unfoldable pub trees_at : Readers → List ℕ → Option (Trees × List ℕ)
trees_at R s = expr_at R 1 s >>= λ x. more_at R x.0 x.1

-- what is read by at most n calls inside one another
unfoldable pub within : ℕ → Readers
within zero = record { expr = λ w s. None; climb = λ w t own s. Some (t, s); items = λ s. None }
within (suc n) = record { expr = expr_at (within n); climb = climb_at (within n); items = trees_at (within n) }

-- what is read by as many calls as the text needs
unfoldable pub reading : Readers
reading = record {
  expr = λ w s. (within (length s)).expr w s;
  climb = λ w t own s. (within (length s)).climb w t own s;
  items = λ s. (within (length s)).items s;
}

-- an expression behind which nothing stands
unfoldable pub whole_at : List ℕ → Option Tree
whole_at s = reading.expr 1 s >>= λ x. value_ended x.0 x.1
