-- Which term stands for which expression, by cases on both.
use Rattle.std.specs.Prelude.{◌≡◌, ◌*◌}
use Rattle.f77_tree.specs.declared.tree.Kind.{Kind}
use Rattle.f77_tree.specs.declared.tree.Kind.TheVariants.{Integer, Logical}
use Rattle.f77_actions.specs.declared.expression.Arithmetic.TheVariants as arithmetic
use Rattle.f77_actions.specs.declared.expression.Element.{Variable}
use Rattle.f77_actions.specs.declared.expression.Element as slots
use Rattle.f77_actions.specs.declared.expression.Number.{Number, Constant, Binary'}
use Rattle.f77_actions.specs.declared.expression.Number as number
use Rattle.f77_actions.specs.declared.expression.Condition.{Condition, Related}
use Rattle.f77_actions.specs.declared.expression.Condition as condition
use Rattle.f77_code.specs.declared.term.Term.{Term, Register, Element, MatrixAt, Sum, Difference, Product}
use Rattle.f77_code.specs.declared.term.Term.{Compared, TooLarge, Vector', Matrix'}
use Rattle.f77_code.specs.declared.term.Term.{Add', Subtract', Multiply', Calculated'}
use Rattle.f77_code.specs.declared.term.Term.{Negated', Absolute', ZeroPush', Related', Connected', Not'}
use Rattle.f77_code.specs.Holds.{Plan, IsSlot, AreSlots, IsConstant}
use Rattle.f77_actions.specs.Encoded.{truth_number}

abbrev mutual
  -- the term stands for a variable or an array element of this kind
  pub ReadsElement : Plan → Kind → slots.Element → Term → Type 0
  ReadsElement plan kind (Variable k) (Register r) = (r ≡ k) × IsSlot plan kind k
  ReadsElement plan kind (slots.Vector' first bound p x) (Element start count subscript) =
      (start ≡ first)
      × (count ≡ bound) × AreSlots plan kind first bound × IsTerm plan x (Register subscript)
  ReadsElement plan kind (slots.Vector' first bound p x) (Vector' start count q subscript) =
      (start ≡ first) × (count ≡ bound) × AreSlots plan kind first bound × IsTerm plan x subscript
  ReadsElement plan kind (slots.Matrix' first rows columns p x q y)
      (MatrixAt start height width row column) =
      (start ≡ first)
      × (height ≡ rows)
      × (width ≡ columns)
      × AreSlots plan kind first (rows * columns)
      × IsTerm plan x (Register row)
      × IsTerm plan y (Register column)
  ReadsElement plan kind (slots.Matrix' first rows columns p x q y)
      (Matrix' start height width o row column) =
      (start ≡ first)
      × (height ≡ rows)
      × (width ≡ columns)
      × AreSlots plan kind first (rows * columns)
      × IsTerm plan x row
      × IsTerm plan y column
  ReadsElement plan kind _ _ = ⊥

  -- the term stands for an INTEGER expression
  pub IsTerm : Plan → Number → Term → Type 0
  IsTerm plan (Constant z) (Register r) = IsConstant plan r z
  IsTerm plan number.TooLarge TooLarge = Unit {0}
  IsTerm plan (number.Element e) term = ReadsElement plan Integer e term
  IsTerm plan (number.Negated' p x) (Negated' q operand) = IsTerm plan x operand
  IsTerm plan (number.Absolute' p x) (Absolute' q operand) = IsTerm plan x operand
  IsTerm plan (number.ZeroPush' p x) (ZeroPush' q operand) = IsTerm plan x operand
  IsTerm plan (Binary' op p x q y) (Sum left right) =
      (op ≡ arithmetic.Add) × IsTerm plan x (Register left) × IsTerm plan y (Register right)
  IsTerm plan (Binary' op p x q y) (Difference left right) =
      (op ≡ arithmetic.Subtract) × IsTerm plan x (Register left) × IsTerm plan y (Register right)
  IsTerm plan (Binary' op p x q y) (Product left right) =
      (op ≡ arithmetic.Multiply) × IsTerm plan x (Register left) × IsTerm plan y (Register right)
  IsTerm plan (Binary' op p x q y) (Add' o left right) =
      (op ≡ arithmetic.Add) × IsTerm plan x left × IsTerm plan y right
  IsTerm plan (Binary' op p x q y) (Subtract' o left right) =
      (op ≡ arithmetic.Subtract) × IsTerm plan x left × IsTerm plan y right
  IsTerm plan (Binary' op p x q y) (Multiply' o left right) =
      (op ≡ arithmetic.Multiply) × IsTerm plan x left × IsTerm plan y right
  IsTerm plan (Binary' op p x q y) (Calculated' operation o left right) =
      (op ≡ operation) × IsTerm plan x left × IsTerm plan y right
  IsTerm plan _ _ = ⊥

-- the term stands for a LOGICAL expression
abbrev pub IsTest : Plan → Condition → Term → Type 0
IsTest plan (condition.Constant b) (Register r) = IsConstant plan r (truth_number b)
IsTest plan (condition.Element e) term = ReadsElement plan Logical e term
IsTest plan (condition.Not' p x) (Not' q operand) = IsTest plan x operand
IsTest plan (Related op x y) (Compared relation left right) =
    (op ≡ relation) × IsTerm plan x (Register left) × IsTerm plan y (Register right)
IsTest plan (Related op x y) (Related' relation p left right) =
    (op ≡ relation) × IsTerm plan x left × IsTerm plan y right
IsTest plan (condition.Connected' op p x q y) (Connected' connective o left right) =
    (op ≡ connective) × IsTest plan x left × IsTest plan y right
IsTest plan _ _ = ⊥
