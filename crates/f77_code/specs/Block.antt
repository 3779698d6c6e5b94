-- Instructions executed one after another.
use Rattle.std.specs.Prelude.{ℕ, zero, suc, Bool, List, slice_get}
use Rattle.std.specs.List.{list_all}
use Rattle.std.specs.Option.{option_map_or}
use Rattle.f77_code.specs.declared.instruction.Instruction.{Instruction}
use Rattle.f77_code.specs.Operation.{Point, ran, operation_within}

-- the point after one instruction; where there is no instruction, the point stays
abbrev pub one : List Instruction → Point → Point
one code p =
    option_map_or (λ instruction. ran instruction.operation instruction.next p.registers p.turns)
    (slice_get code p.place) p

-- the point after n instructions
abbrev pub code_after : List Instruction → ℕ → Point → Point
code_after code zero p = p
code_after code (suc n) p = code_after code n (one code p)

-- the registers and counters that the code names are among the first n and the first `loops`
abbrev pub code_within : ℕ → ℕ → List Instruction → Bool
code_within n loops code =
    list_all (λ instruction. operation_within n loops instruction.operation) code
