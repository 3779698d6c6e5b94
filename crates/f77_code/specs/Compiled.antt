-- Instructions and code that stand for statements in each plan that begins with a table of
-- constants.
use Rattle.std.specs.Prelude.{◌≡◌, ◌<◌, ◌+◌, ◌&&◌, ℕ, Bool, true, nat_lt, List, length, Some, slice_get}
use Rattle.std.specs.List.{list_all}
use Rattle.f77_actions.specs.declared.action.Action.{Action, Branch, Loop}
use Rattle.f77_actions.specs.declared.resolved.Resolved.{Resolved}
use Rattle.f77_code.specs.declared.constants.Constants.{Constants}
use Rattle.f77_code.specs.declared.instruction.Instruction.{Instruction}
use Rattle.f77_code.specs.Instructions.{StandsForStatement, StandsForIncrement}
use Rattle.f77_code.specs.Compiling.{is_of_32_bits, can_compile}
use Rattle.f77_code.specs.Constants.{BeginsPlan}
use Rattle.f77_code.specs.Evaluation.{number_within, condition_within}
use Rattle.f77_code.specs.Holds.{Plan, loop_count, do_rank, is_loop_at}
use Rattle.f77_code.specs.Moves.{is_loop}
use Rattle.f77_code.specs.Typing.{HasAction}

-- The action can be compiled: its slots are among the first ones, it goes to statements whose
-- numbers have 32 bits, and a DO ends at one of n statements.
abbrev pub is_ready : ℕ → ℕ → Action → Bool
is_ready slots n (Branch x otherwise) = condition_within slots x && is_of_32_bits otherwise
is_ready slots n (Loop variable first last step t) =
    nat_lt variable slots && (number_within slots first
    && (number_within slots last && (number_within slots step && nat_lt t n)))
is_ready slots n action = can_compile slots action

-- each of the statements can be compiled
abbrev pub are_ready : ℕ → List Resolved → Bool
are_ready slots statements = list_all (λ r. is_ready slots (length statements) r.action) statements

-- the instruction stands for statement i
pub record IsInstruction (table : Constants) (statements : List Resolved) (i : ℕ)
    (instruction : Instruction) : Type 0 where
  pub stands : (plan : Plan) (r : Resolved)
      → BeginsPlan plan table → slice_get statements i ≡ Some r → HasAction plan r.action
      → StandsForStatement plan statements i r r.action instruction.operation instruction.next

-- the instruction increments the DO d
pub record IsIncrement (statements : List Resolved) (d : ℕ)
    (instruction : Instruction) : Type 0 where
  pub increments : (plan : Plan) (r : Resolved)
      → slice_get statements d ≡ Some r → HasAction plan r.action
      → StandsForIncrement plan statements d r.action instruction.operation instruction.next

-- the code has the instructions of all statements, and behind them the incrementations of all DOs
pub record AreCompiled (table : Constants) (statements : List Resolved)
    (code : List Instruction) : Type 0 where
  pub count : length code ≡ length statements + loop_count statements
  pub executed : (i : ℕ) (instruction : Instruction) → i < length statements
      → slice_get code i ≡ Some instruction → IsInstruction table statements i instruction
  pub incremented : (d : ℕ) (instruction : Instruction) → is_loop_at statements d ≡ true
      → slice_get code (length statements + do_rank statements d) ≡ Some instruction
      → IsIncrement statements d instruction

-- the two have the same statement behind, the same DOs that end there, and both are DOs or neither
-- is
pub record HasOneFrame (r s : Resolved) : Type 0 where
  pub next : s.next ≡ r.next
  pub ends : s.ends.items ≡ r.ends.items
  pub loop : is_loop s.action ≡ is_loop r.action
