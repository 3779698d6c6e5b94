-- How registers hold the state of the machine over slots: first a register for each slot, then the
-- constants. DOs have counters beside the registers.
use Rattle.std.specs.Prelude.{◌≡◌, ◌<◌, ◌≤◌, ◌+◌, ℕ, Bool, true, false, List, length}
use Rattle.std.specs.Prelude.{take, count_by, Option, Some, slice_get, ℤ, Result, Ok}
use Rattle.std.specs.Option.{option_map_or}
use Rattle.f77_tree.specs.declared.tree.Kind.{Kind}
use Rattle.f77_tree.specs.declared.tree.Kind.TheVariants.{Integer, Logical}
use Rattle.f77_actions.specs.declared.resolved.Resolved.{Resolved}
use Rattle.f77_actions.specs.declared.finish.Fault.{Fault}
use Rattle.f77_actions.specs.declared.value.Value.{Value}
use Rattle.f77_code.specs.declared.control.Turn.{Turn}
use Rattle.f77_code.specs.Evaluation.{held_in}
use Rattle.f77_code.specs.Moves.{Cells, TurnList, turn_at, is_loop}
use Rattle.f77_code.specs.Registers.{register, are_held}
use Rattle.f77_actions.specs.Encoded.{of_truth}
use Rattle.f77_actions.specs.Value.{whole, logic}

-- a plan of registers: the number of slots, their kinds, and the constants in the registers behind
-- them
pub record Plan : Type 0 where
  pub slots : ℕ
  pub kind : ℕ → Kind
  pub constants : List ℤ

-- there is a slot k, and it is of this kind
abbrev pub IsSlot : Plan → Kind → ℕ → Type 0
IsSlot plan kind k = (k < plan.slots) × (plan.kind k ≡ kind)

-- there are `count` slots of this kind, from the first one on
abbrev pub AreSlots : Plan → Kind → ℕ → ℕ → Type 0
AreSlots plan kind first count = (k : ℕ) → k < count → IsSlot plan kind (first + k)

-- the register r holds this constant
pub record IsConstant (plan : Plan) (r : ℕ) (z : ℤ) : Type 0 where
  pub place : ℕ
  pub behind : r ≡ plan.slots + place
  pub value : slice_get plan.constants place ≡ Some z

-- the value that is read from a slot of this kind, a truth value as 0 or 1
abbrev pub read_as : Kind → Option Value → Result ℤ Fault
read_as Integer value = whole value
read_as Logical value = of_truth (logic value)

-- each register stands for the value of its slot, or for its constant
pub record HoldsRegisters (plan : Plan) (registers : List ℤ) (cells : Cells) : Type 0 where
  pub slots : (k : ℕ)
      → k < plan.slots → register registers k ≡ read_as (plan.kind k) (held_in cells k)
  pub constants : (k : ℕ) (z : ℤ)
      → slice_get plan.constants k ≡ Some z → register registers (plan.slots + k) ≡ Ok z
  pub held : are_held registers ≡ true
  pub count : length cells ≡ plan.slots
  pub room : plan.slots ≤ length registers

-- the number of DOs
abbrev pub loop_count : List Resolved → ℕ
loop_count statements = count_by (λ r. is_loop r.action) statements

-- the number of DOs before statement d
abbrev pub do_rank : List Resolved → ℕ → ℕ
do_rank statements d = loop_count (take d statements)

-- statement d is a DO
abbrev pub is_loop_at : List Resolved → ℕ → Bool
is_loop_at statements d = option_map_or (λ r. is_loop r.action) (slice_get statements d) false

-- d is a DO, and its counter has this turn
pub record IsCounted (statements : List Resolved) (counters : List Turn) (d : ℕ)
    (turn : Turn) : Type 0 where
  pub loop : is_loop_at statements d ≡ true
  pub counter : slice_get counters (do_rank statements d) ≡ Some turn
  pub left : 0 < turn.passes

-- The counters hold the turns of the active DOs. Of the other counters nothing is said, so a jump
-- out of a DO changes no counter.
pub record HoldsCounters (statements : List Resolved) (counters : List Turn)
    (turns : TurnList) : Type 0 where
  pub active : (d : ℕ) (turn : Turn)
      → turn_at turns d ≡ Some turn → IsCounted statements counters d turn
  pub room : loop_count statements ≤ length counters
