-- Noting one more time at which control was at an instruction.
-- Private functions and proofs alone cite what stands here.
use Rattle.std.specs.Prelude.{◌≡◌, ◌≤◌, ℕ, true, false, List, length, take, None, Some, slice_get, slice_set}
use Rattle.f77_code.specs.declared.noting.Passed.{Passed}
use Rattle.f77_code.specs.declared.kept_step.KeptStep.{KeptStep}
use Rattle.f77_code.specs.Operation.{Point}

-- the step from p to q, after so many others, is kept, with the first `count` registers of both points
pub record IsStepKept (count steps : ℕ) (p q : Point) (kept : KeptStep) : Type 0 where
  pub made : kept.made ≡ steps
  pub slots : kept.slots.items ≡ take count p.registers
  pub turns : kept.turns.items ≡ p.turns
  pub place : kept.place ≡ q.place
  pub slots_after : kept.slots_after.items ≡ take count q.registers
  pub turns_after : kept.turns_after.items ≡ q.turns

-- the step is kept, or left out
pub data NotesStep (slots made : ℕ) (p q : Point) : Passed → Passed → Type 0 where
  left_out : {old new : Passed} → new.first ≡ old.first → new.more ≡ true → NotesStep slots made p q old new
  is_kept : {old new : Passed} (kept : KeptStep)
      → old.first ≡ None → old.more ≡ false → new.more ≡ false → new.first ≡ Some kept → IsStepKept slots made p q kept
      → NotesStep slots made p q old new

-- the step is noted in a list for the first instructions
pub data NotesList (slots made : ℕ) (p q : Point) : List Passed → List Passed → Type 0 where
  beyond : {old new : List Passed} → length old ≤ p.place → new ≡ old → NotesList slots made p q old new
  noted : {old new : List Passed} (a b : Passed)
      → slice_get old p.place ≡ Some a → new ≡ slice_set old p.place b → NotesStep slots made p q a b
      → NotesList slots made p q old new
