-- Two codes of one program, which may have constants in other registers: both do the same.
use Rattle.std.specs.Prelude.{◌≡◌, ◌<◌, ◌≤◌, ℕ, Bool, List, length, map, drop, Some, slice_get, ℤ}
use Rattle.f77_actions.specs.declared.resolved.Resolved.{Resolved}
use Rattle.f77_code.specs.declared.instruction.Instruction.{Instruction}
use Rattle.f77_code.specs.Block.{code_after}
use Rattle.f77_code.specs.Holds.{Plan}
use Rattle.f77_code.specs.Instructions.{AreCode}
use Rattle.f77_code.specs.Moves.{Move, State}
use Rattle.f77_code.specs.Operation.{Point}
use Rattle.f77_code.specs.Sequences.{AreStatesNested, moved_by}
use Rattle.f77_code.specs.Simulation.{IsAt}
use Rattle.f77_code.specs.Together.{AreTimes, KeptTime, time_of}

-- the two points have the same place, the same registers of n slots and the same counters
pub record SameSlots (n : ℕ) (p q : Point) : Type 0 where
  pub place : q.place ≡ p.place
  pub slots : (k : ℕ) → k < n → slice_get q.registers k ≡ slice_get p.registers k
  pub turns : q.turns ≡ p.turns

-- two codes of one program, the plans of their registers, and the points at which they start
pub record Twins : Type 0 where
  pub statements : List Resolved
  pub plan : Plan
  pub code : List Instruction
  pub start : Point
  pub plan_of_other : Plan
  pub other : List Instruction
  pub start_of_other : Point
  pub state : State

-- both are code of these statements, and both start in the same state
pub record AreTwins (twins : Twins) : Type 0 where
  pub slots : twins.plan_of_other.slots ≡ twins.plan.slots
  pub kind : twins.plan_of_other.kind ≡ twins.plan.kind
  pub code : AreCode twins.plan twins.statements twins.code
  pub other : AreCode twins.plan_of_other twins.statements twins.other
  pub at : IsAt twins.plan twins.statements twins.start twins.state
  pub at_other : IsAt twins.plan_of_other twins.statements twins.start_of_other twins.state
  pub turns : twins.start_of_other.turns ≡ twins.start.turns

-- after n steps of both, slots and counters are the same
abbrev pub TwinsEqual : Type 0
TwinsEqual = (twins : Twins) (n : ℕ) (move : Move) → AreTwins twins
    → AreStatesNested twins.statements n twins.state
    → moved_by twins.statements n twins.state ≡ Some move
    → SameSlots twins.plan.slots (code_after twins.code n twins.start)
    (code_after twins.other n twins.start_of_other)

-- each of these has n registers of slots
abbrev pub HaveSlots : ℕ → List KeptTime → Type 0
HaveSlots n kept = (j : ℕ) (one : KeptTime) → slice_get kept j ≡ Some one
    → (length one.slots ≡ n) × (length one.slots_after ≡ n)

-- what is kept of the times of a run of one code is also true of the other
abbrev pub TimesOfTwins : Type 0
TimesOfTwins = (twins : Twins) (behind behind_other : List ℤ) (i n : ℕ) (kept : List KeptTime)
    (more : Bool) → AreTwins twins
    → ((k : ℕ) → k ≤ n → SameSlots twins.plan.slots (code_after twins.code k twins.start)
    (code_after twins.other k twins.start_of_other))
    → drop twins.plan.slots twins.start_of_other.registers ≡ behind_other
    → HaveSlots twins.plan.slots kept
    → AreTimes twins.code i twins.start 0 n (map (time_of i behind) kept) more
    → AreTimes twins.other i twins.start_of_other 0 n (map (time_of i behind_other) kept) more
