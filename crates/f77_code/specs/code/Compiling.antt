-- Operations that stand for actions in each plan that begins with a table of constants; and operations made of terms.
-- Private functions and proofs alone cite what stands here.
use Rattle.std.specs.Prelude.{◌≡◌, ℕ, Some, MatchOption}
use Rattle.f77_tree.specs.declared.tree.Kind.{Kind}
use Rattle.f77_actions.specs.declared.action.Action.{Action, LogicalIf'}
use Rattle.f77_actions.specs.declared.expression.Condition.{Condition}
use Rattle.f77_actions.specs.declared.expression.Element.{Element}
use Rattle.f77_code.specs.declared.constants.Constants.{Constants}
use Rattle.f77_code.specs.declared.instruction.Operation.{Operation, IfTrue}
use Rattle.f77_code.specs.declared.term.Term.{Term}
use Rattle.f77_code.specs.Instructions.{giving, comparing, StandsForAssignment, IsOperation}
use Rattle.f77_code.specs.code.Compile.{IsRelationOf}
use Rattle.f77_code.specs.Constants.{BeginsPlan}
use Rattle.f77_code.specs.Holds.{Plan}
use Rattle.f77_code.specs.Typing.{HasSlots, HasTruths, HasAction}

-- the operation gives the register the value of this term
abbrev pub IsGiving : ℕ → Term → Operation → Type 0
IsGiving to term operation = giving operation ≡ Some (record { to = to; term = term })

-- the operation goes to the place if this term is true
abbrev pub IsGoing : ℕ → Term → Operation → Type 0
IsGoing there t (IfTrue place term) = (place ≡ there) × (term.value ≡ t)
IsGoing there t _ = ⊥

abbrev pub IsTesting : ℕ → Term → Operation → Type 0
IsTesting there t operation =
    MatchOption (comparing operation) (IsGoing there t operation)
    (λ c. (c.there ≡ there) × IsRelationOf c.relation c.left c.right t)

-- the operation gives the element the value of this term
pub record IsAssigning (table : Constants) (e : Element) (term : Term) (operation : Operation) : Type 0 where
  pub assigns : (plan : Plan) (kind : Kind)
      → BeginsPlan plan table → HasSlots plan kind e → StandsForAssignment plan kind (λ t. t ≡ term) e operation

-- the action is a logical IF of this condition and this action
abbrev pub IsLogicalIf : Condition → Action → Action → Type 0
IsLogicalIf x action (LogicalIf' y p inner) = (x ≡ y) × (action ≡ inner)
IsLogicalIf x action _ = ⊥

-- the operation stands for an action in a logical IF
pub record IsConditional (table : Constants) (x : Condition) (action : Action) (operation : Operation) : Type 0 where
  pub stands : (plan : Plan) (whole : Action)
      → BeginsPlan plan table → IsLogicalIf x action whole → HasTruths plan x → HasAction plan action
      → IsOperation plan whole operation

-- the operation stands for an action
pub record IsCompiled (table : Constants) (action : Action) (operation : Operation) : Type 0 where
  pub stands : (plan : Plan) → BeginsPlan plan table → HasAction plan action → IsOperation plan action operation
