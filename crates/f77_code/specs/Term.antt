-- The values of terms over registers.
use Rattle.std.specs.Prelude.{◌+◌, ◌*◌, ◌&&◌, ℕ, Bool, true, not, nat_lt, List, ℤ, Result, Ok, Err}
use Rattle.f77_actions.specs.declared.expression.Arithmetic.TheVariants as arithmetic
use Rattle.f77_actions.specs.declared.expression.Connective.{Connective}
use Rattle.f77_actions.specs.declared.expression.Connective.TheVariants as connective
use Rattle.f77_actions.specs.declared.expression.Relation.{Relation}
use Rattle.f77_actions.specs.declared.finish.Fault.{Fault}
use Rattle.f77_actions.specs.declared.finish.Fault.TheVariants.{Overflow}
use Rattle.f77_code.specs.declared.term.Term.{Term, Register, Element, MatrixAt, Sum, Difference, Product}
use Rattle.f77_code.specs.declared.term.Term.{Compared, TooLarge, Vector', Matrix'}
use Rattle.f77_code.specs.declared.term.Term.{Add', Subtract', Multiply', Calculated'}
use Rattle.f77_code.specs.declared.term.Term.{Negated', Absolute', ZeroPush', Related', Connected', Not'}
use Rattle.f77_code.specs.Evaluation.{calculated, compared}
use Rattle.f77_code.specs.Registers.{register, vector_place, matrix_place, element_at}
use Rattle.f77_actions.specs.Number.{in_range, negated, without_sign}
use Rattle.f77_actions.specs.Encoded.{truth_number, conjunction, disjunction, equivalence, exclusion, negation}
use Rattle.f77_actions.specs.Value.{given, both, pushed}

-- the result of a relation of numbers, as a number
abbrev pub related_number : Relation → ℤ → ℤ → Result ℤ Fault
related_number relation a b = Ok (truth_number (compared relation a b))

-- the result of a logical operator on truth values, as numbers
abbrev pub connected_number : Connective → ℤ → ℤ → Result ℤ Fault
connected_number connective.And a b = Ok (conjunction a b)
connected_number connective.Or a b = Ok (disjunction a b)
connected_number connective.Equivalent a b = Ok (equivalence a b)
connected_number connective.NotEquivalent a b = Ok (exclusion a b)

-- the value of a term over these registers
abbrev pub term_value : List ℤ → Term → Result ℤ Fault
term_value registers (Register r) = register registers r
term_value registers (Element first bound subscript) =
    element_at registers first (vector_place bound (register registers subscript))
term_value registers (MatrixAt first rows columns row column) =
    element_at registers first
    (matrix_place rows columns (register registers row) (register registers column))
term_value registers (Sum left right) =
    both (calculated arithmetic.Add) (register registers left) (register registers right)
term_value registers (Difference left right) =
    both (calculated arithmetic.Subtract) (register registers left) (register registers right)
term_value registers (Product left right) =
    both (calculated arithmetic.Multiply) (register registers left) (register registers right)
term_value registers (Compared relation left right) =
    both (related_number relation) (register registers left) (register registers right)
term_value registers TooLarge = Err Overflow
term_value registers (Vector' first bound p subscript) =
    element_at registers first (vector_place bound (term_value registers subscript))
term_value registers (Matrix' first rows columns p row column) =
    element_at registers first
    (matrix_place rows columns (term_value registers row) (term_value registers column))
term_value registers (Add' p left right) =
    both (calculated arithmetic.Add) (term_value registers left) (term_value registers right)
term_value registers (Subtract' p left right) =
    both (calculated arithmetic.Subtract) (term_value registers left) (term_value registers right)
term_value registers (Multiply' p left right) =
    both (calculated arithmetic.Multiply) (term_value registers left) (term_value registers right)
term_value registers (Calculated' operation p left right) =
    both (calculated operation) (term_value registers left) (term_value registers right)
term_value registers (Negated' p operand) =
    given (term_value registers operand) (λ z. in_range (negated z))
term_value registers (Absolute' p operand) =
    given (term_value registers operand) (λ z. in_range (without_sign z))
term_value registers (ZeroPush' p operand) = given (term_value registers operand) pushed
term_value registers (Related' relation p left right) =
    both (related_number relation) (term_value registers left) (term_value registers right)
term_value registers (Connected' connective p left right) =
    both (connected_number connective) (term_value registers left) (term_value registers right)
term_value registers (Not' p operand) = given (term_value registers operand) (λ z. Ok (negation z))

-- the registers that a term names are among the first n
abbrev pub term_within : ℕ → Term → Bool
term_within n (Register r) = nat_lt r n
term_within n (Element first bound subscript) = not (nat_lt n (first + bound)) && nat_lt subscript n
term_within n (MatrixAt first rows columns row column) =
    not (nat_lt n (first + rows * columns)) && (nat_lt row n && nat_lt column n)
term_within n (Sum left right) = nat_lt left n && nat_lt right n
term_within n (Difference left right) = nat_lt left n && nat_lt right n
term_within n (Product left right) = nat_lt left n && nat_lt right n
term_within n (Compared relation left right) = nat_lt left n && nat_lt right n
term_within n TooLarge = true
term_within n (Vector' first bound p subscript) =
    not (nat_lt n (first + bound)) && term_within n subscript
term_within n (Matrix' first rows columns p row column) =
    not (nat_lt n (first + rows * columns)) && (term_within n row && term_within n column)
term_within n (Add' p left right) = term_within n left && term_within n right
term_within n (Subtract' p left right) = term_within n left && term_within n right
term_within n (Multiply' p left right) = term_within n left && term_within n right
term_within n (Calculated' operation p left right) = term_within n left && term_within n right
term_within n (Negated' p operand) = term_within n operand
term_within n (Absolute' p operand) = term_within n operand
term_within n (ZeroPush' p operand) = term_within n operand
term_within n (Related' relation p left right) = term_within n left && term_within n right
term_within n (Connected' connective p left right) = term_within n left && term_within n right
term_within n (Not' p operand) = term_within n operand
