-- Which resolved expression is that of which expression, by cases on both. Names have these bounds,
-- and slots in the order of this list.
use Rattle.std.specs.Prelude.{◌≡◌, ℕ, ◌<◌, ◌≤◌, List, [], ◌∷◌, Some, pos}
use Rattle.f77_tree.specs.Tree.{Tree, Trees}
use Rattle.f77_tree.specs.declared.intrinsic.Intrinsic.TheVariants.{Mod, Iabs, Min0, Max0}
use Rattle.f77_tree.specs.declared.operator.Sign.TheVariants.{Plus, Minus}
use Rattle.f77_actions.specs.declared.expression.Arithmetic.{Arithmetic}
use Rattle.f77_actions.specs.declared.expression.Arithmetic.TheVariants as arithmetic
use Rattle.f77_actions.specs.declared.expression.Element.{Element, Variable, Vector', Matrix'}
use Rattle.f77_actions.specs.declared.expression.Number.{Number, Constant, TooLarge, Negated'}
use Rattle.f77_actions.specs.declared.expression.Number.{Absolute', ZeroPush', Binary'}
use Rattle.f77_actions.specs.declared.expression.Number as number
use Rattle.f77_actions.specs.declared.expression.Condition.{Condition, Not', Related, Connected'}
use Rattle.f77_actions.specs.declared.expression.Condition as condition
use Rattle.f77_legal.specs.Names.{Symbol}
use Rattle.f77_actions.specs.Operators.{arithmetic_of, relation_of, connective_of}
use Rattle.f77_check.specs.Slots.{first_slot}

abbrev mutual
  -- the element is that of a reference to a variable or an array element
  pub IsElement : (Symbol → List ℕ) → List Symbol → Symbol → Trees → Element → Type 0
  IsElement bounds names name Trees.None (Variable slot) =
      (bounds name ≡ []) × (first_slot bounds names name ≡ Some slot)
  IsElement bounds names name (Trees.Then tree Trees.None) (Vector' first bound _ subscript) =
      (bounds name ≡ bound ∷ [])
      × (first_slot bounds names name ≡ Some first) × IsNumber bounds names tree subscript
  IsElement bounds names name (Trees.Then left (Trees.Then right Trees.None))
      (Matrix' first rows columns _ row _ column) =
      (bounds name ≡ rows ∷ (columns ∷ []))
      × (first_slot bounds names name ≡ Some first)
      × IsNumber bounds names left row
      × IsNumber bounds names right column
  IsElement bounds names name _ _ = ⊥

  -- the number is that of an INTEGER expression
  pub IsNumber : (Symbol → List ℕ) → List Symbol → Tree → Number → Type 0
  IsNumber bounds names (Tree.Number value) (Constant whole) =
      (whole ≡ pos value) × (value ≤ 2147483647)
  IsNumber bounds names (Tree.Number value) TooLarge = 2147483647 < value
  IsNumber bounds names (Tree.Reference name items) (number.Element element) =
      IsElement bounds names name items element
  IsNumber bounds names (Tree.Call Mod (Trees.Then left (Trees.Then right Trees.None)))
      (Binary' operation _ first _ second) =
      (operation ≡ arithmetic.Modulus)
      × IsNumber bounds names left first × IsNumber bounds names right second
  IsNumber bounds names (Tree.Call Iabs (Trees.Then tree Trees.None)) (Absolute' _ operand) =
      IsNumber bounds names tree operand
  IsNumber bounds names (Tree.Call Min0 items) chosen =
      IsChosen bounds names arithmetic.Least items chosen
  IsNumber bounds names (Tree.Call Max0 items) chosen =
      IsChosen bounds names arithmetic.Greatest items chosen
  IsNumber bounds names (Tree.Signed Plus tree) operand = IsNumber bounds names tree operand
  IsNumber bounds names (Tree.Signed Minus tree) (Negated' _ operand) =
      IsNumber bounds names tree operand
  IsNumber bounds names (Tree.Binary written left right) (Binary' operation _ first _ second) =
      (arithmetic_of written ≡ Some operation)
      × IsNumber bounds names left first × IsNumber bounds names right second
  IsNumber bounds names (Tree.ZeroPush tree) (ZeroPush' _ operand) =
      IsNumber bounds names tree operand
  IsNumber bounds names _ _ = ⊥

  -- the number is the least or the greatest of these: an operation on the first and on the choice
  -- among the rest
  pub IsChosen : (Symbol → List ℕ) → List Symbol → Arithmetic → Trees → Number → Type 0
  IsChosen bounds names choice Trees.None chosen = ⊥
  IsChosen bounds names choice (Trees.Then tree Trees.None) chosen =
      IsNumber bounds names tree chosen
  IsChosen bounds names choice (Trees.Then left (Trees.Then right trees))
      (Binary' operation _ first _ rest) =
      (operation ≡ choice) × IsNumber bounds names left first
      × IsChosen bounds names choice (Trees.Then right trees) rest
  IsChosen bounds names choice _ _ = ⊥

-- the condition is that of a LOGICAL expression
abbrev pub IsCondition : (Symbol → List ℕ) → List Symbol → Tree → Condition → Type 0
IsCondition bounds names (Tree.Truth truth) (condition.Constant constant) = constant ≡ truth
IsCondition bounds names (Tree.Reference name items) (condition.Element element) =
    IsElement bounds names name items element
IsCondition bounds names (Tree.Not tree) (Not' _ operand) = IsCondition bounds names tree operand
IsCondition bounds names (Tree.Binary written left right) (Related related first second) =
    (relation_of written ≡ Some related)
    × IsNumber bounds names left first × IsNumber bounds names right second
IsCondition bounds names (Tree.Binary written left right) (Connected' connected _ first _ second) =
    (connective_of written ≡ Some connected)
    × IsCondition bounds names left first × IsCondition bounds names right second
IsCondition bounds names _ _ = ⊥
