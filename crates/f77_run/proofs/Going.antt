-- What the code of a program comes to is what its run comes to.
use Rattle.f77_run.proofs.Common.{◌≡◌, length, sym, ◌∙◌, ap, subst, List, arith, refl, ◌<◌, ℕ, Some, true, ◌++◌, None, ◌≤◌, ℤ, ◌+◌, slice_get, ◌-◌, option_map}
use Rattle.f77_run.proofs.Common.{length-append, ◌⊎◌, inr, inl, ◌≢◌, same_Some, slice_get_past, list_all, fits, Finish, StepLimit, Failed, Returned, Stopped}
use Rattle.f77_run.proofs.Common.{Resolved, slot_count, slot_kinds, item_at, order, code_after, code_within, are_ready, loop_count, HoldsRegisters}
use Rattle.f77_run.proofs.Common.{HoldsCounters, Plan, AreCode, place_at, Cells, State, Ends, Goes, Move, Point, point, ended_point, IsCode, are_held, Code}
use Rattle.f77_run.proofs.Common.{Turn, kind_of, bounds_of, AgreeOnDummies, IsRunningIn, ComesToCells, stands_for, values_at, kinds_count, outcome_typed, Store}
use Rattle.f77_run.proofs.Common.{IsTyped, loaded, counters_of, values_fit, shown_cells, CameBack, plan_of, Kind}
use Rattle.f77_code.specs.code.Compiled.{HaveActions}
use Rattle.f77_code.specs.Constants.{BeginsPlan}
use Rattle.f77_code.specs.Sequences.{moved_by}
use Rattle.f77_code.specs.Simulation.{IsAt, IsMove}
use Rattle.f77_code.proofs.Assembled.{code_stands}
use Rattle.f77_code.proofs.Reached.{code_there}
use Rattle.f77_code.proofs.Sequences.{blocks_simulated, goes_round}
use Rattle.f77_meaning.proofs.StateDefinitions.{turn_of}
use Rattle.f77_meaning.specs.Outcome.{IsOutcome}
use Rattle.f77_meaning.specs.code.Running.{RunSite}
use Rattle.f77_meaning.proofs.Endless.{limit_met}
use Rattle.f77_meaning.proofs.Moving.{ComesIn, moves_by, all_nested, ends_later, place_below}
use Rattle.f77_meaning.proofs.PassesLeft.{active_is_loop, passes_left}
use Rattle.f77_run.proofs.Advancing.{after_more}
use Rattle.f77_run.proofs.Kinded.{have_actions}
use Rattle.f77_run.proofs.Loaded.{loaded_count, loaded_holds, counters_count, counters_hold}
use Rattle.f77_run.proofs.Readiness.{few_statements, all_ready}
use Rattle.f77_run.proofs.Shown.{agree_on_dummies}

-- ends have places beyond those of all instructions
end_far : (finish : Finish) → 4294967296 ≤ ended_point finish
end_far Returned = omega arith
end_far Stopped = omega arith
end_far (Failed fault) = omega arith
end_far StepLimit = omega arith

module _ (at : RunSite) (statements : List Resolved) (s : State) (is : IsRunningIn at statements s) (kinds : List Kind)
    (kinds_are : kinds ≡ slot_kinds (kind_of at.program) (bounds_of at.program) at.names) (code : Code) (compiled : IsCode statements code)
    (slots : code.constants.slots ≡ length kinds) where
  abbrev pub plan : Plan
  plan = plan_of kinds code.constants

  many_kinds : length kinds ≡ slot_count (bounds_of at.program) at.names
  many_kinds = ap length kinds_are ∙ kinds_count (kind_of at.program) (bounds_of at.program) at.names

  pub sized : length s.cells ≡ length kinds
  sized = is.cells ∙ sym many_kinds

  pub long : length s.turns ≡ length statements
  long = is.turns ∙ sym is.resolved.count

  pub begins : BeginsPlan plan code.constants
  begins = record { slots = sym slots; values = λ k z e. e }

  pub are : AreCode plan statements code.instructions.items
  are = code_stands plan code.constants statements code.instructions.items compiled.compiled
      (few_statements at.program at.names statements is.legal is.resolved) begins
      (subst (λ list. HaveActions (plan_of list code.constants) statements) (sym kinds_are)
      (have_actions at.program at.names statements code.constants is.legal is.resolved))

  -- the registers that are loaded stand for the state of the machine
  module _ (registers : List ℤ) (loads : registers ≡ loaded kinds s.cells ++ code.constants.values.items) (held : are_held registers ≡ true)
      (fit : values_fit kinds s.cells ≡ true) (constants_fit : list_all fits code.constants.values.items ≡ true) (counters : List Turn)
      (counts : counters ≡ counters_of statements s.turns) where
    abbrev pub begin : Point
    begin = point (place_at statements s.place) registers counters

    pub within : code_within (length registers) (length counters) code.instructions.items ≡ true
    within =
        let size : length registers ≡ length kinds + length code.constants.values.items
        = ap length loads ∙ length-append (loaded kinds s.cells) code.constants.values.items
        ∙ ap (λ n. n + length code.constants.values.items) (loaded_count kinds s.cells sized) in
        let many : length counters ≡ loop_count statements = ap length counts ∙ counters_count statements s.turns long in
        let there = code_there plan statements code.instructions.items are
        (subst (λ n. are_ready n statements ≡ true) (sym many_kinds) (all_ready at.program at.names statements is.legal is.resolved is.formed)) in
        subst (λ n. code_within n (length counters) code.instructions.items ≡ true) (sym size)
        (subst (λ n. code_within (length kinds + length code.constants.values.items) n code.instructions.items ≡ true) (sym many) there)

    holds : HoldsRegisters plan registers s.cells
    holds =
        subst (λ list. HoldsRegisters plan list s.cells) (sym loads)
        (loaded_holds kinds code.constants s.cells sized (subst (λ list. are_held list ≡ true) loads held) fit constants_fit)

    counted : HoldsCounters statements counters s.turns
    counted =
        subst (λ list. HoldsCounters statements list s.turns) (sym counts)
        (counters_hold statements s.turns long
        (λ d turn active. (
          active_is_loop at.program at.names at.given statements (stands_for at s) is.formed is.legal is.resolved is.comes d (turn_of turn)
              (ap (option_map turn_of) active),
          passes_left at.program at.given (stands_for at s) is.comes d (turn_of turn) (ap (option_map turn_of) active),
        )))

    pub starts : IsAt plan statements begin s
    starts = record { place = refl; holds = holds; counts = counted }

    -- the run comes to something behind each number of steps, and so does the code
    pub moves : (n : ℕ) → (move : Move) × (moved_by statements n s ≡ Some move) × ComesIn at statements n (stands_for at s) move
    moves n = moves_by at statements n s is

    pub did : (n : ℕ) (move : Move) → moved_by statements n s ≡ Some move → IsMove plan statements (code_after code.instructions.items n begin) move
    did n move e =
        blocks_simulated plan statements code.instructions.items begin s n move are starts (all_nested at statements n s is) e

    -- an end has no instruction
    far_there : (n : ℕ) (o : Finish) (cells : Cells) → moved_by statements n s ≡ Some (Ends o cells)
        → slice_get code.instructions.items (code_after code.instructions.items n begin).place ≡ None
    far_there n o cells e =
        let is_end = did n (Ends o cells) e in
        let far = end_far o in
        let few = are.few in
        let place = is_end.0 in
        slice_get_past code.instructions.items (code_after code.instructions.items n begin).place (omega (arith, far, few, place))

    -- while the code is at an instruction the run goes on
    pub still_goes : (n : ℕ) → (code_after code.instructions.items n begin).place < length code.instructions.items
        → (values : Store) × IsOutcome at.program n (stands_for at s) StepLimit values
    still_goes n below = by now.0 now.1 now.2
      where
        now : (move : Move) × (moved_by statements n s ≡ Some move) × ComesIn at statements n (stands_for at s) move
        now = moves n

        by : (move : Move) → moved_by statements n s ≡ Some move → ComesIn at statements n (stands_for at s) move
            → (values : Store) × IsOutcome at.program n (stands_for at s) StepLimit values
        by (Goes t) e comes = (values_at at t.cells, limit_met at.program n (stands_for at s) (stands_for at t) comes.0)
        by (Ends o cells) e comes =
            let found = item_at code.instructions.items (code_after code.instructions.items n begin).place below in
            absurd (cc (far_there n o cells e, found.1))

    -- there is a register for each slot, behind all steps
    pub room_then : (n : ℕ) → length kinds ≤ length (code_after code.instructions.items n begin).registers
    room_then n = by now.0 now.1
      where
        now : (move : Move) × (moved_by statements n s ≡ Some move) × ComesIn at statements n (stands_for at s) move
        now = moves n

        by : (move : Move) → moved_by statements n s ≡ Some move → length kinds ≤ length (code_after code.instructions.items n begin).registers
        by (Goes t) e = let is_at = did n (Goes t) e in is_at.holds.room
        by (Ends o cells) e = let is_end = did n (Ends o cells) e in is_end.1.room

    -- where the code stands after `made` instructions, the run stands, or has ended
    module _ (typed : IsTyped at.program (values_at at s.cells)) (steps made place : ℕ) (after_registers : List ℤ) (after_counters : List Turn)
        (stands : point place after_registers after_counters ≡ code_after code.instructions.items made begin) (few : made ≤ steps)
        (rest : made < steps → (length code.instructions.items ≤ place) ⊎ CameBack code.instructions.items begin made)
        (finish : Finish) (at_end : (f : Finish) → place ≡ ended_point f → finish ≡ f) (limit : place < 4294967296 → finish ≡ StepLimit) where
      -- the registers behind them, and what the dummy arguments hold
      agree : (cells : Cells) → HoldsRegisters plan (code_after code.instructions.items made begin).registers cells → IsTyped at.program (values_at at cells)
          → AgreeOnDummies at.program (values_at at cells) (values_at at (shown_cells kinds after_registers))
      agree cells holds typed =
          let here : HoldsRegisters plan after_registers cells = subst (λ (p : Point). HoldsRegisters plan p.registers cells) (sym stands) holds in
          subst (λ list. AgreeOnDummies at.program (values_at at cells) (values_at at (shown_cells list after_registers))) (sym kinds_are)
          (agree_on_dummies at.program at.names code.constants after_registers cells
          (subst (λ list. HoldsRegisters (plan_of list code.constants) after_registers cells) kinds_are here) typed)

      typed_then : (o : Finish) (cells : Cells) → IsOutcome at.program made (stands_for at s) o (values_at at cells) → IsTyped at.program (values_at at cells)
      typed_then o cells ends = outcome_typed at.program made (stands_for at s) o (values_at at cells) is.legal ends typed

      -- the run has ended
      ends_there : (o : Finish) (cells : Cells) → moved_by statements made s ≡ Some (Ends o cells)
          → ComesIn at statements made (stands_for at s) (Ends o cells) → IsMove plan statements (code_after code.instructions.items made begin) (Ends o cells)
          → ComesToCells at steps (stands_for at s) made finish (shown_cells kinds after_registers)
      ends_there o cells e comes is_end =
          let same : finish ≡ o = at_end o (ap (λ (p : Point). p.place) stands ∙ is_end.0) in
          let later = moves steps in
          let last : later.0 ≡ Ends o cells
          = same_Some later.0 (Ends o cells) (sym later.1 ∙ ends_later at statements made steps s o cells few e) in
          let whole : ComesIn at statements steps (stands_for at s) (Ends o cells) = subst (ComesIn at statements steps (stands_for at s)) last later.2 in
          record {
            values = values_at at cells;
            ends = record {
              within = few;
              ends = subst (λ f. IsOutcome at.program made (stands_for at s) f (values_at at cells)) (sym same) comes.0;
              held = values_at at cells;
              outcome = subst (λ f. IsOutcome at.program steps (stands_for at s) f (values_at at cells)) (sym same) whole.0;
              agrees = λ other. refl;
            };
            dummies = agree cells is_end.1 (typed_then o cells comes.0);
          }

      -- a run that goes on has made all steps, or comes back and never ends
      never_back : CameBack code.instructions.items begin made → (o : Finish) (cells : Cells) → moved_by statements steps s ≢ Some (Ends o cells)
      never_back b o cells = λ e.
          let sum = b.sum in
          let whole : b.before + (steps - b.before) ≡ steps = omega (arith, sum, few) in
          let there : slice_get code.instructions.items
          (code_after code.instructions.items (steps - b.before) (code_after code.instructions.items b.before begin)).place ≡ None
          = ap (λ (p : Point). slice_get code.instructions.items p.place)
          (sym (after_more code.instructions.items b.before (steps - b.before) begin) ∙ ap (λ n. code_after code.instructions.items n begin) whole)
          ∙ far_there steps o cells e in
          let none = goes_round code.instructions.items b.since (steps - b.before) (code_after code.instructions.items b.before begin) b.back there in
          let found = item_at code.instructions.items (code_after code.instructions.items b.before begin).place b.there in
          absurd (cc (none, found.1))

      never_ends : (t : State) → moved_by statements made s ≡ Some (Goes t) → place < length code.instructions.items
          → (o : Finish) (cells : Cells) → moved_by statements steps s ≢ Some (Ends o cells)
      never_ends t e below o cells = by (order made steps)
        where
          back : (length code.instructions.items ≤ place) ⊎ CameBack code.instructions.items begin made
              → moved_by statements steps s ≢ Some (Ends o cells)
          back (inl out) = absurd (omega (arith, out, below))
          back (inr b) = never_back b o cells

          by : (made < steps) ⊎ (steps ≤ made) → moved_by statements steps s ≢ Some (Ends o cells)
          by (inl less) = back (rest less)
          by (inr all) = λ end.
              let same : made ≡ steps = omega (arith, few, all) in
              let twice = ap (λ n. moved_by statements n s) same in
              let one : Goes t ≡ Ends o cells = cc (twice, e, end) in
              absurd (cc (one))

      -- a run that goes on meets its limit
      meets_limit : (t : State) → moved_by statements made s ≡ Some (Goes t) → ComesIn at statements made (stands_for at s) (Goes t)
          → IsMove plan statements (code_after code.instructions.items made begin) (Goes t)
          → ComesToCells at steps (stands_for at s) made finish (shown_cells kinds after_registers)
      meets_limit t e comes is_at = by later.0 later.1 later.2
        where
          here : place ≡ place_at statements t.place
          here = ap (λ (p : Point). p.place) stands ∙ is_at.place

          below : place < length code.instructions.items
          below = let there = place_below at statements t comes.1 in omega (arith, here, there, are.count)

          same : finish ≡ StepLimit
          same = limit (let few = are.few in omega (arith, below, few))

          met : IsOutcome at.program made (stands_for at s) StepLimit (values_at at t.cells)
          met = limit_met at.program made (stands_for at s) (stands_for at t) comes.0

          later : (move : Move) × (moved_by statements steps s ≡ Some move) × ComesIn at statements steps (stands_for at s) move
          later = moves steps

          by : (move : Move) → moved_by statements steps s ≡ Some move → ComesIn at statements steps (stands_for at s) move
              → ComesToCells at steps (stands_for at s) made finish (shown_cells kinds after_registers)
          by (Goes u) is whole = record {
            values = values_at at t.cells;
            ends = record {
              within = few;
              ends = subst (λ f. IsOutcome at.program made (stands_for at s) f (values_at at t.cells)) (sym same) met;
              held = values_at at u.cells;
              outcome = subst (λ f. IsOutcome at.program steps (stands_for at s) f (values_at at u.cells)) (sym same)
                  (limit_met at.program steps (stands_for at s) (stands_for at u) whole.0);
              agrees = λ other. absurd (other same);
            };
            dummies = agree t.cells is_at.holds (typed_then StepLimit t.cells met);
          }
          by (Ends o cells) is whole = absurd (never_ends t e below o cells is)

      pub comes_to_cells : ComesToCells at steps (stands_for at s) made finish (shown_cells kinds after_registers)
      comes_to_cells = by now.0 now.1 now.2
        where
          now : (move : Move) × (moved_by statements made s ≡ Some move) × ComesIn at statements made (stands_for at s) move
          now = moves made

          by : (move : Move) → moved_by statements made s ≡ Some move → ComesIn at statements made (stands_for at s) move
              → ComesToCells at steps (stands_for at s) made finish (shown_cells kinds after_registers)
          by (Goes t) e comes = meets_limit t e comes (did made (Goes t) e)
          by (Ends o cells) e comes = ends_there o cells e comes (did made (Ends o cells) e)
