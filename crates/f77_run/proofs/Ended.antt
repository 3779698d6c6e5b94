-- What the code of a run, from its start on, says of its end.
use Rattle.f77_run.proofs.Common.{◌≡◌, length, sym, ◌∙◌, ap, subst, List, ◌<◌, ℕ, true, ◌≤◌, ℤ, ◌⊎◌, Finish, StepLimit, Resolved, CheckedFields, code_after}
use Rattle.f77_run.proofs.Common.{code_within, Point, point, ended_point, are_held, Code, Turn, Instruction, Arg, AreAtStart, RunOf, CameBack, HasCode}
use Rattle.f77_run.proofs.Common.{HasEnded}
use Rattle.f77_run.proofs.Ends as ends

module _ (checked : CheckedFields) (arguments : List Arg) (code : Code) (registers : List ℤ) (turns : List Turn)
    (begun : AreAtStart checked arguments code.constants.values.items registers turns)
    (run : RunOf) (statements : List Resolved) (is : HasCode run statements code) (checked_is : run.checked ≡ checked) (arguments_are : run.arguments ≡ arguments)
    (instructions : List Instruction) (instructions_are : instructions ≡ code.instructions.items) where
  begins : AreAtStart run.checked run.arguments code.constants.values.items registers turns
  begins =
      subst (λ (pair : CheckedFields × List Arg). AreAtStart pair.0 pair.1 code.constants.values.items registers turns)
      (λ i. (sym checked_is i, sym arguments_are i)) begun

  -- the registers and counters that the code names are there
  pub within_there : code_within (length registers) (length turns) instructions ≡ true
  within_there = ap (code_within (length registers) (length turns)) instructions_are ∙ ends.within run statements code is registers turns begins

  module _ (entry : ℕ) (entry_is : entry ≡ checked.start.entry) where
    abbrev pub start : Point
    start = point entry registers turns

    start_is : start ≡ point run.checked.start.entry registers turns
    start_is = ap (λ n. point n registers turns) (entry_is ∙ sym (ap (λ (checked : CheckedFields). checked.start.entry) checked_is))

    both : ◌≡◌ {A = List Instruction × Point} (instructions, start) (code.instructions.items, point run.checked.start.entry registers turns)
    both = λ i. (instructions_are i, start_is i)

    -- where the code stands after `made` instructions is the end of the run
    pub ends_there : (steps made place : ℕ) (after_registers : List ℤ) (after_turns : List Turn)
        → point place after_registers after_turns ≡ code_after instructions made start → made ≤ steps
        → ((k : ℕ) → k < made → (code_after instructions k start).place < length instructions)
        → (made < steps → (length instructions ≤ place) ⊎ CameBack instructions start made)
        → are_held after_registers ≡ true → (finish : Finish) → ((f : Finish) → place ≡ ended_point f → finish ≡ f) → (place < 4294967296 → finish ≡ StepLimit)
        → HasEnded run steps made finish after_registers
    ends_there steps made place after_registers after_turns stands few there rest held finish at_end limit =
        ends.ended run statements code is registers turns begins steps made place after_registers after_turns
        (stands ∙ (λ i. code_after (instructions_are i) made (start_is i))) few
        (λ k below. subst (λ (at : List Instruction × Point). (code_after at.0 k at.1).place < length at.0) both (there k below))
        (λ less. subst (λ (at : List Instruction × Point). (length at.0 ≤ place) ⊎ CameBack at.0 at.1 made) both (rest less))
        held finish at_end limit
