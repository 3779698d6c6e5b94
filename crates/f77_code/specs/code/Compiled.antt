-- Instructions and code that stand for statements in each plan that begins with a table of constants.
-- Private functions and proofs alone cite what stands here.
use Rattle.std.specs.Prelude.{◌≡◌, ◌≢◌, ◌<◌, ◌+◌, ℕ, true, List, length, Some, slice_get}
use Rattle.f77_actions.specs.declared.resolved.Resolved.{Resolved}
use Rattle.f77_code.specs.declared.constants.Constants.{Constants}
use Rattle.f77_code.specs.declared.instruction.Instruction.{Instruction}
use Rattle.f77_code.specs.Holds.{Plan, do_rank, is_loop_at}
use Rattle.f77_code.specs.Typing.{HasAction}
use Rattle.f77_code.specs.Compiled.{HasOneFrame, IsInstruction, IsIncrement}

-- the list has the instructions of the first n statements
pub record AreExecuted (table : Constants) (statements : List Resolved) (n : ℕ) (list : List Instruction) : Type 0 where
  pub count : length list ≡ n
  pub each : (i : ℕ) (instruction : Instruction)
      → slice_get list i ≡ Some instruction → IsInstruction table statements i instruction

-- the list has the instructions of all statements, and behind them the incrementations of the DOs among the first n
pub record AreFollowed (table : Constants) (statements : List Resolved) (n : ℕ) (list : List Instruction) : Type 0 where
  pub count : length list ≡ length statements + do_rank statements n
  pub executed : (i : ℕ) (instruction : Instruction)
      → i < length statements → slice_get list i ≡ Some instruction → IsInstruction table statements i instruction
  pub incremented : (d : ℕ) (instruction : Instruction) → d < n → is_loop_at statements d ≡ true
      → slice_get list (length statements + do_rank statements d) ≡ Some instruction
      → IsIncrement statements d instruction

-- the slots that statements name exist and have the right kinds
abbrev pub HaveActions : Plan → List Resolved → Type 0
HaveActions plan statements = (i : ℕ) (r : Resolved) → slice_get statements i ≡ Some r → HasAction plan r.action

-- the statements of both lists have the same frame at each place
pub record HaveSameFrames (before after : List Resolved) : Type 0 where
  pub count : length after ≡ length before
  pub each : (j : ℕ) (r s : Resolved) → slice_get before j ≡ Some r → slice_get after j ≡ Some s → HasOneFrame r s

-- the lists differ in statement i alone, which has the same frame in both
pub record IsReplaced (before : List Resolved) (i : ℕ) (after : List Resolved) : Type 0 where
  pub count : length after ≡ length before
  pub others : (j : ℕ) → j ≢ i → slice_get after j ≡ slice_get before j
  pub changed : (r s : Resolved)
      → slice_get before i ≡ Some r → slice_get after i ≡ Some s → HasOneFrame r s
