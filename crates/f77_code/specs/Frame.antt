-- Registers that instructions do not name: they keep their values, and make no difference to the
-- others.
use Rattle.std.specs.Prelude.{◌≡◌, ◌<◌, ◌+◌, ◌*◌, ◌++◌, ℕ, true, List, drop, length, Some, slice_get, ℤ}
use Rattle.f77_actions.specs.declared.resolved.Resolved.{Resolved}
use Rattle.f77_code.specs.declared.instruction.Instruction.{Instruction}
use Rattle.f77_code.specs.declared.instruction.Operation.{Operation, Set, SetElement, SetMatrix, Do, Count, Next}
use Rattle.f77_code.specs.declared.instruction.Operation.{When', Move, Add, Subtract, Multiply, Load}
use Rattle.f77_code.specs.Block.{code_after, code_within}
use Rattle.f77_code.specs.Holds.{Plan}
use Rattle.f77_code.specs.Instructions.{AreCode}
use Rattle.f77_code.specs.Operation.{Point, point}

-- the point with more registers behind its own
abbrev pub with_more : Point → List ℤ → Point
with_more p extra = point p.place (p.registers ++ extra) p.turns

-- registers behind those that code names make no difference to what it does, and keep their values
abbrev pub MoreRegisters : Type 0
MoreRegisters = (code : List Instruction) (loops n : ℕ) (p : Point) (extra : List ℤ)
    → code_within (length p.registers) loops code ≡ true
    → code_after code n (with_more p extra) ≡ with_more (code_after code n p) extra

-- the register k is among the first `count` of an array
pub record IsInArray (first count k : ℕ) : Type 0 where
  pub place : ℕ
  pub below : place < count
  pub is : k ≡ first + place

-- the registers that an operation may write
abbrev pub IsWritten : Operation → ℕ → Type 0
IsWritten (Set to term) k = k ≡ to
IsWritten (SetElement first bound pair) k = IsInArray first bound k
IsWritten (SetMatrix first rows columns pair term) k = IsInArray first (rows * columns) k
IsWritten (Do variable counter body parameters) k = k ≡ variable
IsWritten (Count variable counter body first last step) k = k ≡ variable
IsWritten (Next variable counter body) k = k ≡ variable
IsWritten (When' term p inner) k = IsWritten inner k
IsWritten (Move to from) k = k ≡ to
IsWritten (Add to left right) k = k ≡ to
IsWritten (Subtract to left right) k = k ≡ to
IsWritten (Multiply to left right) k = k ≡ to
IsWritten (Load to first bound subscript) k = k ≡ to
IsWritten _ k = ⊥

-- each register that an operation, or code, writes is below n
abbrev pub WritesBelow : ℕ → Operation → Type 0
WritesBelow n operation = (k : ℕ) → IsWritten operation k → k < n

abbrev pub AllWriteBelow : ℕ → List Instruction → Type 0
AllWriteBelow n code = (j : ℕ) (instruction : Instruction)
    → slice_get code j ≡ Some instruction → WritesBelow n instruction.operation

-- code does not change the registers behind those that it writes: constants keep their values
abbrev pub LeavesBehind : Type 0
LeavesBehind = (code : List Instruction) (n steps : ℕ) (p : Point) → AllWriteBelow n code
    → drop n (code_after code steps p).registers ≡ drop n p.registers

-- the code of a program writes no registers but those of slots
abbrev pub WritesSlots : Type 0
WritesSlots = (plan : Plan) (statements : List Resolved) (code : List Instruction)
    → AreCode plan statements code → AllWriteBelow plan.slots code
