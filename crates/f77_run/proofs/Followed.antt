-- What is known of code of a checked program that is followed from the start of a run on.
use Rattle.f77_run.proofs.Common.{◌≡◌, length, sym, ◌∙◌, ap, subst, List, arith, ◌<◌, ℕ, true, map, ◌≤◌, ℤ, drop, length-map, Finish, StepLimit, CheckedFields}
use Rattle.f77_run.proofs.Common.{IsChecked, code_after, code_within, ArePassed, HaveSizes, Point, point, ended_point, IsCode, are_held, Code, Turn}
use Rattle.f77_run.proofs.Common.{Instruction, AreFitting, IsOutcomeOf, Reports, held, Arg, Outcome, line_of, AreAtStart, cells_at_start, IsFollowed}
use Rattle.f77_run.proofs.Common.{HoldDummies, RunOf, HasCode, shown_by, Visits}
use Rattle.f77_code.specs.Frame.{AllWriteBelow}
use Rattle.f77_code.proofs.Writes.{writes_slots}
use Rattle.f77_run.proofs.Loaded.{loaded_room}
use Rattle.f77_run.proofs.Starting.{own_compiled, own_run, slots_counted}
use Rattle.f77_run.proofs.Ends as ends

module _ (checked : CheckedFields) (is : IsChecked checked) (arguments : List Arg) (fits : AreFitting checked.arguments arguments)
    (code : Code) (code_is : IsCode checked.statements code) (slots : code.constants.slots ≡ checked.slots)
    (registers : List ℤ) (turns : List Turn) (begun : AreAtStart checked arguments code.constants.values.items registers turns)
    (instructions : List Instruction) (instructions_are : instructions ≡ code.instructions.items) where
  abbrev run : RunOf
  run = own_run checked is arguments fits

  compiled : HasCode run checked.statements code
  compiled = own_compiled checked is arguments fits code code_is slots

  -- the registers and counters that the code names are there
  pub names_within : code_within (length registers) (length turns) instructions ≡ true
  names_within = ap (code_within (length registers) (length turns)) instructions_are ∙ ends.within run checked.statements code compiled registers turns begun

  -- the code writes no registers but those of slots
  pub writes_below : (n : ℕ) → n ≡ checked.slots → AllWriteBelow n instructions
  writes_below n many =
      subst (λ list. AllWriteBelow n list) (sym instructions_are)
      (subst (λ k. AllWriteBelow k code.instructions.items) (sym (slots_counted checked is n many))
      (writes_slots _ checked.statements code.instructions.items (ends.code_is run checked.statements code compiled registers turns begun)))

  -- there is a register for each slot
  pub slots_within : (n : ℕ) → n ≡ checked.slots → n ≤ length registers
  slots_within n many =
      let room = loaded_room checked.start.kinds.items (cells_at_start checked arguments) code.constants.values.items registers begun.loaded in
      let count = slots_counted checked is n many in
      omega (arith, room, count)

  -- the code has an instruction for each statement
  pub statements_within : (n : ℕ) → n ≡ length checked.program → n ≤ length instructions
  statements_within n many =
      let size = ap length instructions_are in
      let count = code_is.compiled.count in
      let lines = is.statements.count ∙ length-map checked.program line_of in
      omega (arith, size, count, lines, many)

  module _ (entry : ℕ) (entry_is : entry ≡ checked.start.entry) where
    abbrev pub start : Point
    start = point entry registers turns

    start_is : start ≡ point checked.start.entry registers turns
    start_is = ap (λ n. point n registers turns) entry_is

    -- where the code stands after all steps
    module _ (steps place : ℕ) (after_registers : List ℤ) (after_turns : List Turn)
        (stands : point place after_registers after_turns ≡ code_after instructions steps start)
        (finish : Finish) (at_end : (f : Finish) → place ≡ ended_point f → finish ≡ f) (limit : place < 4294967296 → finish ≡ StepLimit) where
      stands_there : point place after_registers after_turns ≡ code_after code.instructions.items steps (point checked.start.entry registers turns)
      stands_there = stands ∙ (λ i. code_after (instructions_are i) steps (start_is i))

      pub dummies_there : are_held after_registers ≡ true → HoldDummies checked after_registers
      dummies_there =
          ends.dummies run checked.statements code compiled registers turns begun steps steps place after_registers after_turns stands_there
          (omega arith) (λ less. absurd (omega (arith, less))) finish at_end limit

      pub outcome_there : (answer : Outcome) → Reports (map line_of checked.program) finish (held checked (shown_by checked after_registers)) answer
          → IsOutcomeOf (map line_of checked.program) arguments steps answer
      outcome_there =
          ends.reports run checked.statements code compiled registers turns begun steps steps place after_registers after_turns stands_there
          (omega arith) (λ less. absurd (omega (arith, less))) finish at_end limit

    -- what is noted of the steps
    pub followed : (steps n : ℕ) → n ≡ checked.slots → (visits : Visits) → length visits.list.items ≡ length checked.program
        → ArePassed instructions start (drop n registers) steps visits.list.items → HaveSizes n (length turns) visits.list.items
        → IsFollowed checked arguments steps visits
    followed steps n many visits count passed sizes = record {
      fitting = fits;
      code = code;
      start = start;
      starts = record { compiled = code_is; slots = slots; place = entry_is; begins = begun };
      count = count;
      passed =
          subst (λ k. ArePassed code.instructions.items start (drop k registers) steps visits.list.items) many
          (subst (λ list. ArePassed list start (drop n registers) steps visits.list.items) instructions_are passed);
      sizes = subst (λ k. HaveSizes k (length turns) visits.list.items) many sizes;
    }
