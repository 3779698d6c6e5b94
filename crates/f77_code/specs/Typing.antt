-- Expressions and actions whose slots exist and have the right kinds.
use Rattle.std.specs.Prelude.{◌*◌}
use Rattle.f77_tree.specs.declared.tree.Kind.{Kind}
use Rattle.f77_tree.specs.declared.tree.Kind.TheVariants.{Integer, Logical}
use Rattle.f77_actions.specs.declared.action.Action.{Action, AssignNumber, AssignTruth, ComputedGoto}
use Rattle.f77_actions.specs.declared.action.Action.{ArithmeticIf, LogicalIf', Branch, Loop}
use Rattle.f77_actions.specs.declared.expression.Element.{Element, Variable, Vector', Matrix'}
use Rattle.f77_actions.specs.declared.expression.Number.{Number, Constant, TooLarge, Negated'}
use Rattle.f77_actions.specs.declared.expression.Number.{Absolute', ZeroPush', Binary'}
use Rattle.f77_actions.specs.declared.expression.Number as number
use Rattle.f77_actions.specs.declared.expression.Condition.{Condition, Not', Related, Connected'}
use Rattle.f77_actions.specs.declared.expression.Condition as condition
use Rattle.f77_code.specs.Holds.{Plan, IsSlot, AreSlots}

-- the slots of the expression exist and have the right kinds
abbrev mutual
  pub HasSlots : Plan → Kind → Element → Type 0
  HasSlots plan kind (Variable k) = IsSlot plan kind k
  HasSlots plan kind (Vector' first bound p x) = AreSlots plan kind first bound × HasNumbers plan x
  HasSlots plan kind (Matrix' first rows columns p x q y) =
      AreSlots plan kind first (rows * columns) × HasNumbers plan x × HasNumbers plan y

  pub HasNumbers : Plan → Number → Type 0
  HasNumbers plan (Constant z) = Unit {0}
  HasNumbers plan TooLarge = Unit {0}
  HasNumbers plan (number.Element e) = HasSlots plan Integer e
  HasNumbers plan (Negated' p x) = HasNumbers plan x
  HasNumbers plan (Absolute' p x) = HasNumbers plan x
  HasNumbers plan (ZeroPush' p x) = HasNumbers plan x
  HasNumbers plan (Binary' op p x q y) = HasNumbers plan x × HasNumbers plan y

-- the slots of a LOGICAL expression exist and have the right kinds
abbrev pub HasTruths : Plan → Condition → Type 0
HasTruths plan (condition.Constant b) = Unit {0}
HasTruths plan (condition.Element e) = HasSlots plan Logical e
HasTruths plan (Not' p x) = HasTruths plan x
HasTruths plan (Related op x y) = HasNumbers plan x × HasNumbers plan y
HasTruths plan (Connected' op p x q y) = HasTruths plan x × HasTruths plan y

-- the slots of an action exist and have the right kinds
abbrev pub HasAction : Plan → Action → Type 0
HasAction plan (AssignNumber e x) = HasSlots plan Integer e × HasNumbers plan x
HasAction plan (AssignTruth e x) = HasSlots plan Logical e × HasTruths plan x
HasAction plan (ComputedGoto x jumps) = HasNumbers plan x
HasAction plan (ArithmeticIf x a b c) = HasNumbers plan x
HasAction plan (LogicalIf' x p action) = HasTruths plan x × HasAction plan action
HasAction plan (Branch x otherwise) = HasTruths plan x
HasAction plan (Loop slot first last step t) =
    IsSlot plan Integer slot × HasNumbers plan first × HasNumbers plan last × HasNumbers plan step
HasAction plan _ = Unit {0}
