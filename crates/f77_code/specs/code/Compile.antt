-- Terms that stand for expressions in each plan that begins with a table of constants; and terms made of terms.
use Rattle.std.specs.Prelude.{◌≡◌, ℕ}
use Rattle.f77_tree.specs.declared.tree.Kind.{Kind}
use Rattle.f77_actions.specs.declared.expression.Arithmetic.{Arithmetic}
use Rattle.f77_actions.specs.declared.expression.Arithmetic.TheVariants as arithmetic
use Rattle.f77_actions.specs.declared.expression.Relation.{Relation}
use Rattle.f77_actions.specs.declared.expression.Element as slots
use Rattle.f77_actions.specs.declared.expression.Number.{Number}
use Rattle.f77_actions.specs.declared.expression.Condition.{Condition}
use Rattle.f77_code.specs.declared.constants.Constants.{Constants}
use Rattle.f77_code.specs.declared.term.Pair.{Pair}
use Rattle.f77_code.specs.declared.term.Term.{Term, Register, Element, MatrixAt, Sum, Difference, Product}
use Rattle.f77_code.specs.declared.term.Term.{Compared, Vector', Matrix', Add', Subtract', Multiply'}
use Rattle.f77_code.specs.declared.term.Term.{Calculated', Related'}
use Rattle.f77_code.specs.Constants.{BeginsPlan}
use Rattle.f77_code.specs.Holds.{Plan}
use Rattle.f77_code.specs.Standing.{ReadsElement, IsTerm, IsTest}
use Rattle.f77_code.specs.Typing.{HasSlots, HasNumbers, HasTruths}

-- the term stands for a variable or an array element, of either kind
pub record IsReadTerm (table : Constants) (e : slots.Element) (term : Term) : Type 0 where
  pub reads : (plan : Plan) (kind : Kind) → BeginsPlan plan table → HasSlots plan kind e → ReadsElement plan kind e term

-- the term stands for an INTEGER expression
pub record IsNumberTerm (table : Constants) (x : Number) (term : Term) : Type 0 where
  pub stands : (plan : Plan) → BeginsPlan plan table → HasNumbers plan x → IsTerm plan x term

-- the term stands for a LOGICAL expression
pub record IsTestTerm (table : Constants) (x : Condition) (term : Term) : Type 0 where
  pub tests : (plan : Plan) → BeginsPlan plan table → HasTruths plan x → IsTest plan x term

-- the terms stand for two INTEGER expressions
pub record ArePair (table : Constants) (x y : Number) (pair : Pair) : Type 0 where
  pub left : IsNumberTerm table x pair.left
  pub right : IsNumberTerm table y pair.right

-- the term is an element of an array of one dimension, by this subscript
abbrev pub IsVectorOf : ℕ → ℕ → Term → Term → Type 0
IsVectorOf first bound x (Element start count subscript) = (start ≡ first) × (count ≡ bound) × (x ≡ Register subscript)
IsVectorOf first bound x (Vector' start count q subscript) = (start ≡ first) × (count ≡ bound) × (x ≡ subscript)
IsVectorOf first bound x _ = ⊥

-- the term is an element of an array of two dimensions, by this row and this column
abbrev pub IsMatrixOf : ℕ → ℕ → ℕ → Term → Term → Term → Type 0
IsMatrixOf first rows columns x y (MatrixAt start height width row column) =
    (start ≡ first) × (height ≡ rows) × (width ≡ columns) × (x ≡ Register row) × (y ≡ Register column)
IsMatrixOf first rows columns x y (Matrix' start height width o row column) =
    (start ≡ first) × (height ≡ rows) × (width ≡ columns) × (x ≡ row) × (y ≡ column)
IsMatrixOf first rows columns x y _ = ⊥

-- the term is an operation on these two numbers
abbrev pub IsCalculationOf : Arithmetic → Term → Term → Term → Type 0
IsCalculationOf op x y (Sum left right) = (op ≡ arithmetic.Add) × (x ≡ Register left) × (y ≡ Register right)
IsCalculationOf op x y (Difference left right) = (op ≡ arithmetic.Subtract) × (x ≡ Register left) × (y ≡ Register right)
IsCalculationOf op x y (Product left right) = (op ≡ arithmetic.Multiply) × (x ≡ Register left) × (y ≡ Register right)
IsCalculationOf op x y (Add' p left right) = (op ≡ arithmetic.Add) × (x ≡ left) × (y ≡ right)
IsCalculationOf op x y (Subtract' p left right) = (op ≡ arithmetic.Subtract) × (x ≡ left) × (y ≡ right)
IsCalculationOf op x y (Multiply' p left right) = (op ≡ arithmetic.Multiply) × (x ≡ left) × (y ≡ right)
IsCalculationOf op x y (Calculated' operation p left right) = (op ≡ operation) × (x ≡ left) × (y ≡ right)
IsCalculationOf op x y _ = ⊥

-- the term is a relation of these two numbers
abbrev pub IsRelationOf : Relation → Term → Term → Term → Type 0
IsRelationOf op x y (Compared relation left right) = (op ≡ relation) × (x ≡ Register left) × (y ≡ Register right)
IsRelationOf op x y (Related' relation p left right) = (op ≡ relation) × (x ≡ left) × (y ≡ right)
IsRelationOf op x y _ = ⊥
