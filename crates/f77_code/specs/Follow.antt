-- The first times at which control was at each instruction.
use Rattle.std.specs.Prelude.{◌≡◌, ◌+◌, ℕ, true, false, List, [], ◌∷◌, length, map}
use Rattle.std.specs.Prelude.{Option, None, Some, IfSome, slice_get, ℤ}
use Rattle.std.specs.List.{All, sum}
use Rattle.f77_code.specs.declared.noting.Passed.{Passed}
use Rattle.f77_code.specs.declared.instruction.Instruction.{Instruction}
use Rattle.f77_code.specs.declared.kept_step.KeptStep.{KeptStep}
use Rattle.f77_code.specs.KeptStep.{kept_time}
use Rattle.f77_code.specs.Operation.{Point}
use Rattle.f77_code.specs.Registers.{are_held}
use Rattle.f77_code.specs.Together.{AreTimes, KeptTime, time_of}

-- what is kept of the first time, as a list
abbrev pub first_time : Option KeptStep → List KeptTime
first_time None = []
first_time (Some kept) = kept_time kept ∷ []

-- within n steps of the run from this point, `passed` has the first time at which control was at
-- the instruction i, and whether it was there again; `behind` are the registers behind the slots
abbrev pub IsPassed : List Instruction → Point → List ℤ → ℕ → ℕ → Passed → Type 0
IsPassed code start behind n i passed =
    AreTimes code i start 0 n (map (time_of i behind) (first_time passed.first)) passed.more

-- this holds of each instruction in the list
abbrev pub ArePassed : List Instruction → Point → List ℤ → ℕ → List Passed → Type 0
ArePassed code start behind n list = (i : ℕ) (passed : Passed)
    → slice_get list i ≡ Some passed → IsPassed code start behind n i passed

-- nothing is noted yet
abbrev pub AreNone : List Passed → Type 0
AreNone list = All (λ passed. (passed.first ≡ None) × (passed.more ≡ false)) list

-- the step has this number of slots and of counters
pub record HasSizes (slots loops : ℕ) (kept : KeptStep) : Type 0 where
  pub before : length kept.slots.items ≡ slots
  pub after : length kept.slots_after.items ≡ slots
  pub turns_before : length kept.turns.items ≡ loops
  pub held : are_held kept.slots.items ≡ true

-- each kept step of the list has this number of slots and of counters
abbrev pub HaveSizes : ℕ → ℕ → List Passed → Type 0
HaveSizes slots loops list = All (λ passed. IfSome passed.first (HasSizes slots loops)) list

-- the number of numbers that are kept
abbrev pub numbers_of : Option KeptStep → ℕ
numbers_of None = 0
numbers_of (Some kept) = length kept.slots.items + length kept.turns.items
    + (length kept.slots_after.items + length kept.turns_after.items)

-- the number of numbers that are kept in a list
abbrev pub numbers_kept : List Passed → ℕ
numbers_kept list = sum (map (λ passed. numbers_of passed.first) list)
