-- The code of a program: an instruction for each statement, and behind them one for the
-- incrementation of each DO.
use Rattle.std.specs.Prelude.{◌≡◌, ◌<◌, ◌^◌, ◌+◌, ◌*◌, ◌==◌, if◌then◌else◌, ℕ, List, []}
use Rattle.std.specs.Prelude.{◌∷◌, length, map, Option, Some, None, MatchOption, slice_get}
use Rattle.f77_tree.specs.declared.tree.Kind.{Kind}
use Rattle.f77_tree.specs.declared.tree.Kind.TheVariants.{Integer, Logical}
use Rattle.f77_actions.specs.declared.action.Action.{Action, Declaration, AssignNumber, AssignTruth}
use Rattle.f77_actions.specs.declared.action.Action.{ComputedGoto, ArithmeticIf, LogicalIf', Branch, Loop}
use Rattle.f77_actions.specs.declared.action.Action as action
use Rattle.f77_actions.specs.declared.expression.Condition.{Condition, Related}
use Rattle.f77_actions.specs.declared.expression.Element.{Element, Variable, Vector', Matrix'}
use Rattle.f77_actions.specs.declared.expression.Number.{Number}
use Rattle.f77_actions.specs.declared.expression.Relation.{Relation}
use Rattle.f77_actions.specs.declared.resolved.Resolved.{Resolved}
use Rattle.f77_code.specs.declared.control.Place.{Place}
use Rattle.f77_code.specs.declared.control.Place.TheVariants.{Execute, Increment}
use Rattle.f77_code.specs.declared.instruction.Instruction.{Instruction}
use Rattle.f77_code.specs.declared.instruction.Operation.{Operation, Set, SetElement, SetMatrix, IfTrue, IfRelated}
use Rattle.f77_code.specs.declared.instruction.Operation.{IfCompared, Do, Count, Next, Sign, Select, When', Continue}
use Rattle.f77_code.specs.declared.instruction.Operation.{Goto, Return, Stop, Trap, Move, Add, Subtract, Multiply, Load}
use Rattle.f77_code.specs.declared.instruction.Parameters.{Parameters}
use Rattle.f77_code.specs.declared.term.Term.{Term}
use Rattle.f77_code.specs.declared.term.Term as term
use Rattle.f77_code.specs.Holds.{Plan, IsSlot, AreSlots, loop_count, do_rank}
use Rattle.f77_code.specs.Standing.{IsTerm, IsTest}

-- the number of a place: those of statements come first, then those of incrementations
abbrev pub place_at : List Resolved → Place → ℕ
place_at statements (Execute i) = i
place_at statements (Increment d) = length statements + do_rank statements d

-- the place behind a statement that ends these active DOs, the innermost first: the incrementation
-- of the innermost, or the statement `next` where there is none
abbrev pub onward : List Resolved → List ℕ → ℕ → ℕ
onward statements [] next = next
onward statements (d ∷ ds) next = place_at statements (Increment d)

-- of DOs that end together, the innermost first, those that are outside of d
abbrev pub round : ℕ → List ℕ → List ℕ
round d [] = []
round d (e ∷ es) = if d == e then es else round d es

-- an operation gives a register the value of a term
pub record Giving : Type 0 where
  pub to : ℕ
  pub term : Term

-- the register and the term of an operation that gives one the value of the other
abbrev pub giving : Operation → Option Giving
giving (Set to term) = Some (record { to = to; term = term.value })
giving (Move to from) = Some (record { to = to; term = term.Register from })
giving (Add to left right) = Some (record { to = to; term = term.Sum left right })
giving (Subtract to left right) = Some (record { to = to; term = term.Difference left right })
giving (Multiply to left right) = Some (record { to = to; term = term.Product left right })
giving (Load to first bound subscript) =
    Some (record { to = to; term = term.Element first bound subscript })
giving _ = None

-- an operation begins a DO
pub record Beginning : Type 0 where
  pub variable : ℕ
  pub counter : ℕ
  pub body : ℕ
  pub parameters : Parameters

abbrev pub registers_for : ℕ → ℕ → ℕ → Parameters
registers_for first last step =
    record { first = term.Register first; last = term.Register last; step = term.Register step }

-- the parts of an operation that begins a DO
abbrev pub beginning : Operation → Option Beginning
beginning (Do variable counter body parameters) = Some
    (record { variable = variable; counter = counter; body = body; parameters = parameters.value })
beginning (Count variable counter body first last step) = Some (record {
  variable = variable;
  counter = counter;
  body = body;
  parameters = registers_for first last step;
})
beginning _ = None

-- an operation goes to a place if a relation holds
pub record Comparing : Type 0 where
  pub relation : Relation
  pub left : Term
  pub right : Term
  pub there : ℕ

-- the parts of an operation that goes to a place if a relation holds
abbrev pub comparing : Operation → Option Comparing
comparing (IfRelated op there pair) =
    Some (record { relation = op; left = pair.value.left; right = pair.value.right; there = there })
comparing (IfCompared op left right there) = Some (record {
  relation = op;
  left = term.Register left;
  right = term.Register right;
  there = there;
})
comparing _ = None

-- the operation stands for an assignment, to an element of this kind, of what a term stands for
abbrev pub StandsForAssignment : Plan → Kind → (Term → Type 0) → Element → Operation → Type 0
StandsForAssignment plan kind stands (Variable k) operation =
    MatchOption (giving operation) ⊥ (λ g. (g.to ≡ k) × IsSlot plan kind k × stands g.term)
StandsForAssignment plan kind stands (Vector' first bound p x) (SetElement start count pair) =
    (start ≡ first)
    × (count ≡ bound)
    × AreSlots plan kind first bound
    × IsTerm plan x pair.value.left
    × stands pair.value.right
StandsForAssignment plan kind stands (Matrix' first rows columns p x q y)
    (SetMatrix start height width pair term) =
    (start ≡ first)
    × (height ≡ rows)
    × (width ≡ columns)
    × AreSlots plan kind first (rows * columns)
    × IsTerm plan x pair.value.left
    × IsTerm plan y pair.value.right
    × stands term.value
StandsForAssignment plan kind stands _ _ = ⊥

-- the operation goes to this place if the condition is true
abbrev pub Tests : Plan → Condition → ℕ → Operation → Type 0
Tests plan x there (IfTrue place term) = (place ≡ there) × IsTest plan x term.value
Tests plan (Related op x y) there operation =
    MatchOption (comparing operation) ⊥
    (λ c. (c.there ≡ there) × (op ≡ c.relation) × IsTerm plan x c.left × IsTerm plan y c.right)
Tests plan x there _ = ⊥

-- the operation stands for the action, where both go on to the same place
abbrev pub IsOperation : Plan → Action → Operation → Type 0
IsOperation plan Declaration Continue = Unit {0}
IsOperation plan (AssignNumber e x) operation =
    StandsForAssignment plan Integer (IsTerm plan x) e operation
IsOperation plan (AssignTruth e x) operation =
    StandsForAssignment plan Logical (IsTest plan x) e operation
IsOperation plan (action.Goto jump) (Goto there) = there ≡ jump.target
IsOperation plan (ComputedGoto x jumps) (Select term places) =
    IsTerm plan x term.value × (places.items ≡ map (λ jump. jump.target) jumps.items)
IsOperation plan (ArithmeticIf x a b c) (Sign negative middle positive term) =
    IsTerm plan x term.value × (negative ≡ a.target) × (middle ≡ b.target) × (positive ≡ c.target)
IsOperation plan (LogicalIf' x p inner) (When' term q operation) =
    IsTest plan x term.value × IsOperation plan inner operation
IsOperation plan (LogicalIf' x p (action.Goto jump)) operation = Tests plan x jump.target operation
IsOperation plan action.Continue Continue = Unit {0}
IsOperation plan action.Return Return = Unit {0}
IsOperation plan action.Stop Stop = Unit {0}
IsOperation plan action.Trap Trap = Unit {0}
IsOperation plan _ _ = ⊥

-- `next` is the place behind the DO d, which ends at statement t, when it has no pass left
abbrev pub IsLeftDone : List Resolved → ℕ → ℕ → ℕ → Type 0
IsLeftDone statements d t next =
    (end : Resolved) → slice_get statements t ≡ Some end
    → next ≡ onward statements (round d end.ends.items) end.next

-- the terms stand for the parameters of a DO
pub record AreParameters (plan : Plan) (from to by : Number)
    (parameters : Parameters) : Type 0 where
  pub first : IsTerm plan from parameters.first
  pub last : IsTerm plan to parameters.last
  pub step : IsTerm plan by parameters.step

-- The operation begins the DO i, whose variable is slot k, with these parameters and the terminal
-- statement t; it goes on at `next` when no pass is left.
pub record BeginsDo (plan : Plan) (statements : List Resolved) (i k : ℕ) (from to by : Number)
    (t next : ℕ) (begun : Beginning) : Type 0 where
  pub variable : begun.variable ≡ k
  pub slot : IsSlot plan Integer k
  pub counter : begun.counter ≡ do_rank statements i
  pub body : begun.body ≡ i + 1
  pub parameters : AreParameters plan from to by begun.parameters
  pub left : IsLeftDone statements i t next

-- the operation stands for statement i, and control goes on from it to this place
abbrev pub StandsForStatement : Plan
    → List Resolved → ℕ → Resolved → Action → Operation → ℕ → Type 0
StandsForStatement plan statements i r (Branch x otherwise) operation next =
    Tests plan x (onward statements r.ends.items r.next) operation × (next ≡ otherwise)
StandsForStatement plan statements i r (Loop slot first last step t) operation next =
    MatchOption (beginning operation) ⊥ (BeginsDo plan statements i slot first last step t next)
StandsForStatement plan statements i r act operation next =
    IsOperation plan act operation × (next ≡ onward statements r.ends.items r.next)

-- the operation increments the DO d, and control goes on from it to this place
abbrev pub StandsForIncrement : Plan → List Resolved → ℕ → Action → Operation → ℕ → Type 0
StandsForIncrement plan statements d (Loop slot first last step t)
    (Next variable counter body) next =
    (variable ≡ slot) × IsSlot plan Integer slot
    × (counter ≡ do_rank statements d) × (body ≡ d + 1) × IsLeftDone statements d t next
StandsForIncrement plan statements d (Loop slot first last step t) _ next = ⊥
StandsForIncrement plan statements d _ operation next = Unit {0}

-- the instructions are the code of the statements: one for each, then one for each DO
pub record AreCode (plan : Plan) (statements : List Resolved)
    (code : List Instruction) : Type 0 where
  pub count : length code ≡ length statements + loop_count statements
  pub few : length code < 2 ^ 32
  pub executed : (i : ℕ) (r : Resolved) (instruction : Instruction)
      → slice_get statements i ≡ Some r → slice_get code i ≡ Some instruction
      → StandsForStatement plan statements i r r.action instruction.operation instruction.next
  pub incremented : (d : ℕ) (r : Resolved) (instruction : Instruction)
      → slice_get statements d ≡ Some r
      → slice_get code (length statements + do_rank statements d) ≡ Some instruction
      → StandsForIncrement plan statements d r.action instruction.operation instruction.next
