-- How a run that code makes ends: of a checked program, or of one of its frame.
use Rattle.f77_run.proofs.Common.{◌≡◌, length, sym, ◌∙◌, ap, subst, List, refl, ◌<◌, ℕ, true, map, None, ◌≤◌, ℤ, Bool, replicate, ◌⊎◌, length-map}
use Rattle.f77_run.proofs.Common.{length-replicate, Decides, list_all, list_any, bytes_eq, Finish, StepLimit, Resolved, Value, shapes, slot_count, slot_kinds}
use Rattle.f77_run.proofs.Common.{code_after, code_within, AreCode, Cells, State, state, Point, point, ended_point, are_held, Code, Turn, length_same, kind_of}
use Rattle.f77_run.proofs.Common.{bounds_of, filled_size, state_starts, IsRunningIn, ComesToCells, stands_for, values_at, kinds_count, outcome_typed}
use Rattle.f77_run.proofs.Common.{start_typed, AreFitting, values_in, IsOutcomeOf, Reports, held, IsStart, Store, IsTyped, has_kind, Outcome, line_of}
use Rattle.f77_run.proofs.Common.{LineFields, AreAtStart, counters_of, cells_at_start, shown_cells, HoldDummies, RunOf, CameBack, HasCode, ReportsOf, shown_by}
use Rattle.f77_run.proofs.Common.{HasEnded, IsRun, ShowsEnd, site_in, Kind}
use Rattle.f77_legal.proofs.FrameNames.{kind_of_same, bounds_of_same, elements_same, dummies_same}
use Rattle.f77_check.proofs.Carried.{shapes_same}
use Rattle.f77_code.specs.declared.control.Place.TheVariants.{Execute}
use Rattle.f77_meaning.specs.Control.{Comes}
use Rattle.f77_meaning.specs.Outcome.{IsOutcome}
use Rattle.f77_meaning.specs.code.Running.{site_of}
use Rattle.f77_meaning.specs.States.{values_of}
use Rattle.f77_meaning.proofs.StateDefinitions.{config_of}
use Rattle.f77_meaning.proofs.Unreached.{starts_same, reports_same}
use Rattle.f77_run.proofs.Framed.{counters_same}
use Rattle.f77_run.proofs.Held.{decided_of}
use Rattle.f77_run.proofs.Loaded.{shown_count}
use Rattle.f77_run.proofs.SameReports.{same_shown, reports_in_both, typed_in_both}
use Rattle.f77_run.proofs.Reporting.{reports_within}
use Rattle.f77_run.proofs.Going as going

module _ (run : RunOf) (statements : List Resolved) (is : IsRun run statements) where
  abbrev p : List LineFields
  p = map line_of run.checked.program

  abbrev q : List LineFields
  q = run.program

  abbrev given : List (List Value)
  given = map values_in run.arguments

  bounds : bounds_of q ≡ bounds_of p
  bounds = λ k name. sym (bounds_of_same p q is.frame name) k

  kinds : kind_of q ≡ kind_of p
  kinds = λ k name. sym (kind_of_same p q is.frame name) k

  -- the slots have the same kinds in both
  pub kinds_there : run.checked.start.kinds.items ≡ slot_kinds (kind_of q) (bounds_of q) run.checked.names
  kinds_there = is.checked.start.kinds ∙ (λ k. slot_kinds (sym kinds k) (sym bounds k) run.checked.names)

  -- the state at the start
  abbrev pub begins : State
  begins = state (Execute run.checked.start.entry) (cells_at_start run.checked run.arguments) (replicate (length run.checked.program) None)

  same_config : (s : State) → stands_for (site_in run) s ≡ stands_for (site_of run.checked run.arguments) s
  same_config s = λ k. config_of (bounds k) run.checked.names s

  pub starts : IsStart q given (stands_for (site_in run) begins)
  starts =
      subst (IsStart q given) (sym (same_config begins))
      (starts_same p q is.frame given (stands_for (site_of run.checked run.arguments) begins)
      (state_starts run.checked is.checked run.arguments is.fitting begins (length run.checked.program) refl refl refl))

  pub running : IsRunningIn (site_in run) statements begins
  running = record {
    formed = is.formed;
    legal = is.legal;
    resolved = is.resolved;
    cells = filled_size run.checked is.checked run.arguments is.fitting ∙ ap (λ b. slot_count b run.checked.names) (sym bounds);
    turns = length-replicate (length run.checked.program) None ∙ sym (length-map run.checked.program line_of) ∙ length_same p q is.frame;
    comes = Comes.at_start starts;
  }

  fits : AreFitting (shapes q) run.arguments
  fits = subst (λ list. AreFitting list run.arguments) (is.checked.arguments ∙ shapes_same p q is.frame) is.fitting

  -- dummy arguments have values wherever the run comes to
  typed_at : (n : ℕ) (o : Finish) (s : Store) → IsOutcome q n (stands_for (site_in run) begins) o s → IsTyped q s
  typed_at n o s ends =
      outcome_typed q n (stands_for (site_in run) begins) o s is.legal ends
      (start_typed q run.arguments (stands_for (site_in run) begins) is.legal fits starts)

  begins_typed : IsTyped q (values_at (site_in run) begins.cells)
  begins_typed = typed_at 0 StepLimit _ (refl, refl)

  -- slots give names the same values in both programs, and the same outcome
  same_held : (cells : Cells) → values_at (site_in run) cells ≡ held run.checked cells
  same_held cells = λ k. values_of (bounds k) run.checked.names cells

  own_typed : (s : Store) → IsTyped q s → IsTyped p s
  own_typed s typed name among =
      let own = typed name (subst (λ list. list_any (bytes_eq name) list ≡ true) (dummies_same p q is.frame) among) in
      record {
        count = own.count ∙ sym (elements_same p q is.frame name);
        each = subst (λ kind. list_all (has_kind kind) (s name) ≡ true) (sym (kind_of_same p q is.frame name)) own.each;
      }

  pub reports_there : (cells : Cells) (end : Finish) (answer : Outcome) → Reports p end (held run.checked cells) answer
      → Reports q end (values_at (site_in run) cells) answer
  reports_there cells end answer reports =
      subst (λ s. Reports q end s answer) (sym (same_held cells)) (reports_same p q is.frame end (held run.checked cells) answer reports)

  pub reports_here : (cells : Cells) (end : Finish) (answer : Outcome) → Reports q end (values_at (site_in run) cells) answer
      → Reports p end (held run.checked cells) answer
  reports_here cells end answer reports =
      reports_same q p (sym is.frame) end (held run.checked cells) answer (subst (λ s. Reports q end s answer) (same_held cells) reports)

  slots_counted : (n : ℕ) → n ≡ run.checked.slots → n ≡ length run.checked.start.kinds.items
  slots_counted n same = same ∙ is.checked.slots ∙ sym (ap length is.checked.start.kinds ∙ kinds_count (kind_of p) (bounds_of p) run.checked.names)

  many_cells : length run.checked.start.kinds.items ≡ slot_count (bounds_of p) run.checked.names
  many_cells = ap length is.checked.start.kinds ∙ kinds_count (kind_of p) (bounds_of p) run.checked.names

module _ (run : RunOf) (statements : List Resolved) (code : Code) (is : HasCode run statements code) (registers : List ℤ) (turns : List Turn)
    (begun : AreAtStart run.checked run.arguments code.constants.values.items registers turns) where
  abbrev pub program : List LineFields
  program = run.program

  abbrev pub slots_of : List Kind
  slots_of = run.checked.start.kinds.items

  abbrev pub start : Point
  start = point run.checked.start.entry registers turns

  pub many : code.constants.slots ≡ length slots_of
  many = slots_counted run statements is.of code.constants.slots is.slots

  pub counts : turns ≡ counters_of statements (begins run statements is.of).turns
  counts =
      begun.counters
      ∙ counters_same (map line_of run.checked.program) program is.of.frame run.checked.names run.checked.statements statements is.of.checked.statements is.of.resolved
      (length run.checked.program)

  -- the code is that of its statements, and names registers and counters that are there
  pub code_is : AreCode
      (going.plan (site_in run) statements (begins run statements is.of) (running run statements is.of) slots_of (kinds_there run statements is.of) code is.code_is many)
      statements code.instructions.items
  code_is = going.are (site_in run) statements (begins run statements is.of) (running run statements is.of) slots_of (kinds_there run statements is.of) code is.code_is many

  pub within : code_within (length registers) (length turns) code.instructions.items ≡ true
  within =
      going.within (site_in run) statements (begins run statements is.of) (running run statements is.of) slots_of (kinds_there run statements is.of) code is.code_is many
      registers begun.loaded.items begun.loaded.held begun.loaded.values begun.loaded.numbers turns counts

  module _ (steps made place : ℕ) (after_registers : List ℤ) (after_turns : List Turn)
      (stands : point place after_registers after_turns ≡ code_after code.instructions.items made start) (few : made ≤ steps)
      (rest : made < steps → (length code.instructions.items ≤ place) ⊎ CameBack code.instructions.items start made)
      (finish : Finish) (at_end : (f : Finish) → place ≡ ended_point f → finish ≡ f) (limit : place < 4294967296 → finish ≡ StepLimit) where
    pub end : ComesToCells (site_in run) steps (stands_for (site_in run) (begins run statements is.of)) made finish (shown_cells slots_of after_registers)
    end =
        going.comes_to_cells (site_in run) statements (begins run statements is.of) (running run statements is.of) slots_of (kinds_there run statements is.of) code
        is.code_is many registers begun.loaded.items begun.loaded.held begun.loaded.values begun.loaded.numbers turns counts
        (begins_typed run statements is.of) steps made place after_registers after_turns stands few rest finish at_end limit

    typed : IsTyped program end.values
    typed = typed_at run statements is.of made finish end.values end.ends.ends

    pub room : length run.checked.start.kinds.items ≤ length after_registers
    room =
        subst (λ (p : Point). length slots_of ≤ length p.registers) (sym stands)
        (going.room_then (site_in run) statements (begins run statements is.of) (running run statements is.of) slots_of (kinds_there run statements is.of) code
        is.code_is many registers begun.loaded.items begun.loaded.held begun.loaded.values begun.loaded.numbers turns counts made)

    pub typed_here : IsTyped (map line_of run.checked.program) (held run.checked (shown_by run.checked after_registers))
    typed_here = own_typed run statements is.of (held run.checked (shown_cells slots_of after_registers))
        (subst (IsTyped program) (same_held run statements is.of (shown_cells slots_of after_registers))
        (typed_in_both program end.values (values_at (site_in run) (shown_cells slots_of after_registers)) end.dummies typed))

    pub dummies : are_held after_registers ≡ true → HoldDummies run.checked after_registers
    dummies valid = record {
      valid = valid;
      room = room;
      count = shown_count slots_of after_registers room ∙ many_cells run statements is.of;
      typed = typed_here;
    }

    -- an outcome that reports the registers reports the end of the run
    reports_of_run : (answer : Outcome) → ReportsOf run.checked finish after_registers answer → Reports program finish end.values answer
    reports_of_run answer reports =
        reports_in_both program finish (values_at (site_in run) (shown_cells slots_of after_registers)) end.values answer (λ name among. sym (end.dummies name among))
        (reports_there run statements is.of (shown_cells slots_of after_registers) finish answer reports)

    -- whether an outcome reports the registers says whether it is that of the run
    decides : (answer : Outcome) (same : Bool) → Decides same (ReportsOf run.checked finish after_registers answer)
        → (other : Outcome) × IsOutcomeOf run.program run.arguments steps other × Decides same (answer ≡ other)
    decides answer same decided =
        same_shown program run.arguments steps (stands_for (site_in run) (begins run statements is.of)) made finish end.values
        (values_at (site_in run) (shown_cells slots_of after_registers)) answer same (starts run statements is.of) end.ends typed end.dummies
        (decided_of same decided (reports_there run statements is.of (shown_cells slots_of after_registers) finish answer)
        (reports_here run statements is.of (shown_cells slots_of after_registers) finish answer))

    -- the registers show how the run ends
    pub shows : are_held after_registers ≡ true → ShowsEnd run steps finish after_registers
    shows valid = record { dummies = dummies valid; decides = decides }

    pub reports : (answer : Outcome) → ReportsOf run.checked finish after_registers answer → IsOutcomeOf run.program run.arguments steps answer
    reports answer is_reported = record {
      start = stands_for (site_in run) (begins run statements is.of);
      starts = starts run statements is.of;
      finish = finish;
      values = end.ends.held;
      ends = end.ends.outcome;
      reports = reports_within program steps (stands_for (site_in run) (begins run statements is.of)) made finish end.values answer end.ends (reports_of_run answer is_reported);
    }

    pub sooner : (answer : Outcome) → ReportsOf run.checked finish after_registers answer → IsOutcomeOf run.program run.arguments made answer
    sooner answer is_reported = record {
      start = stands_for (site_in run) (begins run statements is.of);
      starts = starts run statements is.of;
      finish = finish;
      values = end.values;
      ends = end.ends.ends;
      reports = reports_of_run answer is_reported;
    }

  -- the end of the run, where the code was at an instruction before
  module _ (steps made place : ℕ) (after_registers : List ℤ) (after_turns : List Turn)
      (stands : point place after_registers after_turns ≡ code_after code.instructions.items made start) (few : made ≤ steps)
      (there : (k : ℕ) → k < made → (code_after code.instructions.items k start).place < length code.instructions.items)
      (rest : made < steps → (length code.instructions.items ≤ place) ⊎ CameBack code.instructions.items start made)
      (all_held : are_held after_registers ≡ true)
      (finish : Finish) (at_end : (f : Finish) → place ≡ ended_point f → finish ≡ f) (limit : place < 4294967296 → finish ≡ StepLimit) where
    pub ended : HasEnded run steps made finish after_registers
    ended = record {
      shows = shows steps made place after_registers after_turns stands few rest finish at_end limit all_held;
      within = few;
      reports = reports steps made place after_registers after_turns stands few rest finish at_end limit;
      sooner = sooner steps made place after_registers after_turns stands few rest finish at_end limit;
      unended = λ n below.
          let goes = going.still_goes (site_in run) statements (begins run statements is.of) (running run statements is.of) slots_of (kinds_there run statements is.of) code
          is.code_is many registers begun.loaded.items begun.loaded.held begun.loaded.values begun.loaded.numbers turns counts n (there n below) in
          record {
            start = stands_for (site_in run) (begins run statements is.of);
            starts = starts run statements is.of;
            finish = StepLimit;
            values = goes.0;
            ends = goes.1;
            reports = refl;
          };
    }
