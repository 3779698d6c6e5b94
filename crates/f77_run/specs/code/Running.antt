-- Where instructions lead, and code that comes back to a state.
-- Private functions and proofs alone cite what stands here.
use Rattle.std.specs.Prelude.{◌≡◌, ◌<◌, ◌+◌, ℕ, suc, Bool, List, length}
use Rattle.f77_code.specs.declared.instruction.Instruction.{Instruction}
use Rattle.f77_code.specs.Block.{code_after, code_within}
use Rattle.f77_code.specs.Operation.{Point, point}
use Rattle.f77_run.specs.declared.registers.Registers.{Registers}

-- the point at this place with these registers and counters
abbrev pub stands_at : ℕ → Registers → Point
stands_at place registers = point place registers.items.items registers.counters.items

-- the registers and counters that the code names are among these
abbrev pub within_registers : List Instruction → Registers → Bool
within_registers code registers = code_within (length registers.items.items) (length registers.counters.items) code

-- so many instructions lead from `start` to `there`, each from a place where there is one
pub record Leads (code : List Instruction) (start : Point) (made : ℕ) (there : Point) : Type 0 where
  pub stands : there ≡ code_after code made start
  pub within : (k : ℕ) → k < made → (code_after code k start).place < length code

-- after so many instructions the code is in a state in which it was before, at an instruction
pub record CameBack (code : List Instruction) (start : Point) (made : ℕ) : Type 0 where
  pub before : ℕ
  pub since : ℕ
  pub sum : made ≡ before + suc since
  pub there : (code_after code before start).place < length code
  pub back : code_after code (suc since) (code_after code before start) ≡ code_after code before start
