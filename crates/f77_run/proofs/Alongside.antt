-- The run of a changed program beside that of the program: what it comes to where the two do not diverge, and where they do.
use Rattle.f77_run.proofs.Common.{◌≡◌, length, sym, ◌∙◌, ap, subst, List, arith, refl, ◌<◌, ℕ, Some, true, [], map, ◌∷◌, ◌++◌, None, ◌≤◌, ℤ, ◌+◌, Bool, drop}
use Rattle.f77_run.proofs.Common.{slice_get, suc, ◌-◌, false, length-append, ◌&&◌, ◌⊎◌, IfSome, inr, inl, append_assoc, drop-append_seam, and_parts}
use Rattle.f77_run.proofs.Common.{list_all-append, same_Some, Finish, StepLimit, CheckedFields, IsChecked, get_left, code_after, code_within, HasSizes}
use Rattle.f77_run.proofs.Common.{first_time, Cells, Point, point, ended_point, are_held, is_held, decoded, AreTimes, MayDiverge, TwoRuns, time_of, Code, Turn}
use Rattle.f77_run.proofs.Common.{Instruction, one_answer, IsOutcomeOf, Reports, held, IsTyped, Outcome, line_of, LineFields, loaded, AreAtStart, AreLoaded}
use Rattle.f77_run.proofs.Common.{cells_at_start, shown_cells, RunOf, shown_as, CameBack, HasCode, shown_by, IsDivergence, ShowsEnd, Divergence, Registers}
use Rattle.f77_run.proofs.Common.{Kind}
use Rattle.f77_code.specs.declared.kept_step.KeptStep.{KeptStep}
use Rattle.f77_code.specs.Frame.{AllWriteBelow, with_more}
use Rattle.f77_code.specs.KeptStep.{IsKept, DivergingRuns, kept_time}
use Rattle.f77_code.proofs.Together.{never_diverge}
use Rattle.f77_code.proofs.Writes.{writes_slots}
use Rattle.f77_run.proofs.Finished.{finish_of, finish_ended, finish_limit}
use Rattle.f77_run.proofs.Loaded.{loaded_count, loaded_room}
use Rattle.f77_run.proofs.Starting.{initial_cells, own_run as run_itself, own_compiled as compiled_itself, slots_counted}
use Rattle.f77_run.proofs.Reporting.{some_outcome}
use Rattle.f77_run.proofs.Ends as ends

-- two runs whose registers have the same for each slot show the same values
shown_equal : (kinds : List Kind) (xs ys : List ℤ) → length kinds ≤ length xs → ((k : ℕ) → k < length kinds → slice_get ys k ≡ slice_get xs k)
    → shown_cells kinds ys ≡ shown_cells kinds xs
shown_equal [] xs ys room each = refl
shown_equal (kind ∷ kinds) [] ys room each = absurd (omega (arith, room))
shown_equal (kind ∷ kinds) (x ∷ xs) [] room each = absurd (cc (each 0 (omega arith)))
shown_equal (kind ∷ kinds) (x ∷ xs) (y ∷ ys) room each =
    let first : y ≡ x = same_Some y x (each 0 (omega arith)) in
    let rest = shown_equal kinds xs ys (omega (arith, room)) (λ k below. each (suc k) (omega (arith, below))) in
    λ i. shown_as kind (decoded (first i)) ∷ rest i

-- there are as many registers as slots and constants
loaded_length : (kinds : List Kind) (cells : Cells) (constants registers : List ℤ) → AreLoaded kinds cells constants registers
    → length registers ≡ length kinds + length constants
loaded_length kinds cells constants registers are =
    ap length are.items ∙ length-append (loaded kinds cells) constants ∙ ap (λ n. n + length constants) (loaded_count kinds cells are.count)

-- behind the slots there are the constants
loaded_behind : (kinds : List Kind) (cells : Cells) (constants registers : List ℤ) (n : ℕ) → AreLoaded kinds cells constants registers → length kinds ≡ n
    → drop n registers ≡ constants
loaded_behind kinds cells constants registers n are many =
    ap (drop n) are.items ∙ ap (λ n. drop n (loaded kinds cells ++ constants)) (sym (loaded_count kinds cells are.count ∙ many))
    ∙ drop-append_seam (loaded kinds cells) constants

pub loaded_constants : (kinds : List Kind) (cells : Cells) (constants registers : List ℤ) → AreLoaded kinds cells constants registers → are_held constants ≡ true
loaded_constants kinds cells constants registers are =
    (and_parts (are_held (loaded kinds cells)) (are_held constants)
    (sym (list_all-append is_held (loaded kinds cells) constants) ∙ ap are_held (sym are.items) ∙ are.held)).1

-- the checked program is that of the run
pub as_run : (divergence : Divergence) (checked : CheckedFields) (code : Code) (image : Registers) → IsDivergence divergence checked code image
    → IsDivergence divergence divergence.run.checked code image
as_run divergence checked code image is = subst (λ ch. IsDivergence divergence ch code image) (sym is.checked_is) is

module _ (divergence : Divergence) (code : Code) (image : Registers) (is : IsDivergence divergence divergence.run.checked code image) where
  abbrev run : RunOf
  run = divergence.run

  abbrev checked : CheckedFields
  checked = divergence.run.checked

  abbrev p : List LineFields
  p = map line_of divergence.run.checked.program

  abbrev changed : List Instruction
  changed = code.instructions.items

  -- the start of the run of the changed program
  abbrev pub start : Point
  start = point checked.start.entry (is.start.registers ++ is.extra) is.start.turns

  start_is : with_more is.start is.extra ≡ start
  start_is = λ i. point (is.starts.place i) (is.start.registers ++ is.extra) is.start.turns

  is_checked : IsChecked checked
  is_checked = is.compiled.of.checked

  slots_are : length checked.start.kinds.items ≡ checked.slots
  slots_are = sym (slots_counted checked is_checked checked.slots refl)

  extra_held : are_held is.extra ≡ true
  extra_held =
      let values = loaded_constants checked.start.kinds.items (initial_cells checked is_checked) code.constants.values.items
      image.items.items is.begins.registers in
      let all = sym (list_all-append is_held is.own.constants.values.items is.extra) ∙ ap are_held (sym is.constants) ∙ values in
      (and_parts (are_held is.own.constants.values.items) (are_held is.extra) all).1

  pub begun : AreAtStart checked run.arguments code.constants.values.items start.registers start.turns
  begun = record {
    loaded = record {
      count = is.starts.begins.loaded.count;
      items = ap (λ list. list ++ is.extra) is.starts.begins.loaded.items
          ∙ append_assoc (loaded checked.start.kinds.items (cells_at_start checked run.arguments)) is.own.constants.values.items is.extra
          ∙ ap (λ rest. loaded checked.start.kinds.items (cells_at_start checked run.arguments) ++ rest) (sym is.constants);
      held = list_all-append is_held is.start.registers is.extra ∙ (λ i. is.starts.begins.loaded.held i && extra_held i);
      values = is.starts.begins.loaded.values;
      numbers = is.begins.registers.numbers;
    };
    counters = is.starts.begins.counters;
  }

  -- The registers at the start of all runs: as many, and behind the slots the same.
  image_length : length image.items.items ≡ length start.registers
  image_length =
      loaded_length checked.start.kinds.items (initial_cells checked is_checked) code.constants.values.items image.items.items is.begins.registers
      ∙ sym (loaded_length checked.start.kinds.items (cells_at_start checked run.arguments) code.constants.values.items start.registers begun.loaded)

  turns_many : length image.counters.items ≡ length is.start.turns
  turns_many = ap length (is.begins.counters ∙ sym is.starts.begins.counters)

  pub within_image : code_within (length image.items.items) (length image.counters.items) changed ≡ true
  within_image =
      (λ i. code_within (image_length i) (turns_many i) changed)
      ∙ ends.within run is.statements code is.compiled start.registers start.turns begun

  pub slots_room : checked.slots ≤ length image.items.items
  slots_room =
      let many = loaded_room checked.start.kinds.items (initial_cells checked is_checked) code.constants.values.items
      image.items.items is.begins.registers in
      omega (arith, many, slots_are)

  behind : drop checked.slots image.items.items ≡ drop checked.slots is.start.registers ++ is.extra
  behind =
      loaded_behind checked.start.kinds.items (initial_cells checked is_checked) code.constants.values.items image.items.items
      checked.slots is.begins.registers slots_are
      ∙ is.constants
      ∙ ap (λ list. list ++ is.extra)
      (sym (loaded_behind checked.start.kinds.items (cells_at_start checked run.arguments) is.own.constants.values.items is.start.registers checked.slots is.starts.begins.loaded
      slots_are))

  -- The run of the program itself.
  abbrev own_run : RunOf
  own_run = run_itself checked is_checked run.arguments is.compiled.of.fitting

  own_compiled : HasCode own_run checked.statements is.own
  own_compiled = compiled_itself checked is_checked run.arguments is.compiled.of.fitting is.own is.starts.compiled is.starts.slots

  -- the two runs
  abbrev runs : TwoRuns
  runs = record {
    code = is.own.instructions.items;
    other = changed;
    i = divergence.place;
    loops = length is.start.turns;
    start = is.start;
    extra = is.extra;
  }

  abbrev diverging : DivergingRuns
  diverging = record { runs = runs; behind = drop checked.slots is.start.registers }

  may : MayDiverge runs
  may = record {
    within = ends.within own_run checked.statements is.own own_compiled is.start.registers is.start.turns is.starts.begins;
    agree = is.agree;
  }

  -- the first time that is kept
  module _ (kept : KeptStep) (first : divergence.passed.first ≡ Some kept) where
    pub sizes : HasSizes checked.slots (length is.start.turns) kept
    sizes = subst (λ o. IfSome o (HasSizes checked.slots (length is.start.turns))) first is.sizes

    times : AreTimes is.own.instructions.items divergence.place is.start 0 divergence.steps (time_of divergence.place diverging.behind (kept_time kept) ∷ []) divergence.passed.more
    times =
        subst (λ o. AreTimes is.own.instructions.items divergence.place is.start 0 divergence.steps (map (time_of divergence.place diverging.behind) (first_time o)) divergence.passed.more)
        first is.passed_is

    pub kept_within : kept.made < divergence.steps
    kept_within = times.1

    is_kept : (more : Bool) → divergence.passed.more ≡ more → IsKept diverging kept more divergence.steps image.items.items
    is_kept more same = record {
      may = may;
      times = subst (AreTimes is.own.instructions.items divergence.place is.start 0 divergence.steps (time_of divergence.place diverging.behind (kept_time kept) ∷ [])) same times;
      behind = ap (λ n. drop n image.items.items) sizes.before ∙ behind;
      writes = subst (λ n. AllWriteBelow n changed) (slots_are ∙ sym sizes.before)
          (writes_slots _ is.statements changed (ends.code_is run is.statements code is.compiled start.registers start.turns begun));
    }

  -- the changed code stands where the code of the program stands behind all steps
  abbrev pub StayTogether : Type 0
  StayTogether = code_after changed divergence.steps start ≡ with_more (code_after is.own.instructions.items divergence.steps is.start) is.extra

  pub never_there : divergence.passed.first ≡ None → divergence.passed.more ≡ false → StayTogether
  never_there first more =
      ap (code_after changed divergence.steps) (sym start_is)
      ∙ never_diverge runs divergence.steps divergence.steps [] may
      (subst (AreTimes is.own.instructions.items divergence.place is.start 0 divergence.steps []) more
      (subst (λ o. AreTimes is.own.instructions.items divergence.place is.start 0 divergence.steps (map (time_of divergence.place diverging.behind) (first_time o)) divergence.passed.more)
      first is.passed_is))
      (λ j time none at. absurd (omega (arith, none))) (omega arith)

  -- where the changed code stands after all steps
  abbrev last : Point
  last = code_after is.own.instructions.items divergence.steps is.start

  last_is : last ≡ code_after is.own.instructions.items divergence.steps (point checked.start.entry is.start.registers is.start.turns)
  last_is = λ i. code_after is.own.instructions.items divergence.steps (point (is.starts.place i) is.start.registers is.start.turns)

  abbrev finish : Finish
  finish = finish_of last.place

  own_room : length checked.start.kinds.items ≤ length last.registers
  own_room =
      ends.room own_run checked.statements is.own own_compiled is.start.registers is.start.turns is.starts.begins
      divergence.steps divergence.steps last.place last.registers last.turns last_is (omega arith) (λ less. absurd (omega (arith, less)))
      finish (finish_ended last.place) (finish_limit last.place)

  own_typed : IsTyped p (held checked (shown_by checked last.registers))
  own_typed =
      ends.typed_here own_run checked.statements is.own own_compiled is.start.registers is.start.turns is.starts.begins
      divergence.steps divergence.steps last.place last.registers last.turns last_is (omega arith) (λ less. absurd (omega (arith, less)))
      finish (finish_ended last.place) (finish_limit last.place)

  own_reports : (answer : Outcome) → Reports p finish (held checked (shown_by checked last.registers)) answer → IsOutcomeOf p run.arguments divergence.steps answer
  own_reports =
      ends.reports own_run checked.statements is.own own_compiled is.start.registers is.start.turns is.starts.begins
      divergence.steps divergence.steps last.place last.registers last.turns last_is (omega arith) (λ less. absurd (omega (arith, less)))
      finish (finish_ended last.place) (finish_limit last.place)

  -- the outcome of the program reports this end
  outcome_reports : (outcome : Outcome) → IsOutcomeOf p run.arguments divergence.steps outcome → Reports p finish (held checked (shown_by checked last.registers)) outcome
  outcome_reports outcome given =
      let some = some_outcome p finish (held checked (shown_by checked last.registers)) own_typed in
      subst (Reports p finish (held checked (shown_by checked last.registers)))
      (one_answer p run.arguments divergence.steps some.0 outcome (own_reports some.0 some.1) given) some.1

  -- the outcome also reports the end of the run of the changed program, which stands there too
  module _ (together : StayTogether) where
    abbrev there : Point
    there = code_after changed divergence.steps start

    place_is : there.place ≡ last.place
    place_is = ap (λ (q : Point). q.place) together

    same_slots : (k : ℕ) → k < length checked.start.kinds.items → slice_get there.registers k ≡ slice_get last.registers k
    same_slots k below =
        let many = own_room in
        ap (λ (q : Point). slice_get q.registers k) together ∙ get_left last.registers is.extra k (omega (arith, below, many))

    comes_to_same : (outcome : Outcome) → IsOutcomeOf p run.arguments divergence.steps outcome → IsOutcomeOf run.program run.arguments divergence.steps outcome
    comes_to_same outcome given =
        ends.reports run is.statements code is.compiled start.registers start.turns begun
        divergence.steps divergence.steps there.place there.registers there.turns refl (omega arith) (λ less. absurd (omega (arith, less)))
        finish (λ f at. finish_ended last.place f (sym place_is ∙ at)) (λ below. finish_limit last.place (subst (λ n. n < 4294967296) place_is below))
        outcome
        (subst (λ cells. Reports p finish (held checked cells) outcome) (sym (shown_equal checked.start.kinds.items last.registers there.registers own_room same_slots))
        (outcome_reports outcome given))

    pub same_outcome : (program : CheckedFields) → run.checked ≡ program → (steps : ℕ) → steps ≡ divergence.steps → (outcome : Outcome)
        → IsOutcomeOf (map line_of program.program) run.arguments steps outcome → IsOutcomeOf run.program run.arguments steps outcome
    same_outcome program is_it steps many outcome given =
        let here = subst (λ n. IsOutcomeOf p run.arguments n outcome) many
        (subst (λ (program : CheckedFields). IsOutcomeOf (map line_of program.program) run.arguments steps outcome) (sym is_it) given) in
        subst (λ n. IsOutcomeOf run.program run.arguments n outcome) (sym many) (comes_to_same outcome here)

  -- a step was made from the first time that is kept, and the changed code went on from there
  module _ (kept : KeptStep) (more : Bool) (first : divergence.passed.first ≡ Some kept) (once : divergence.passed.more ≡ more) (place : ℕ) (place_is : place ≡ divergence.place)
      (registers : List ℤ) (loads : drop (length kept.slots.items) registers ≡ drop (length kept.slots.items) image.items.items)
      (list : List Instruction) (listed : list ≡ changed) where
    kept_there : IsKept diverging kept more divergence.steps registers
    kept_there =
        let own = is_kept kept first more once in
        record { may = own.may; times = own.times; behind = loads ∙ own.behind; writes = own.writes }

    pub same_run : ((diverging : DivergingRuns) (steps : ℕ) → list ≡ diverging.runs.other → place ≡ diverging.runs.i → IsKept diverging kept more steps registers
        → code_after list steps (with_more diverging.runs.start diverging.runs.extra) ≡ with_more (code_after diverging.runs.code steps diverging.runs.start) diverging.runs.extra)
        → StayTogether
    same_run same =
        ap (code_after changed divergence.steps) (sym start_is) ∙ ap (λ list. code_after list divergence.steps (with_more is.start is.extra)) (sym listed)
        ∙ same diverging divergence.steps listed place_is kept_there

    pub leads : (q : Point) → ((diverging : DivergingRuns) (steps : ℕ) → list ≡ diverging.runs.other → place ≡ diverging.runs.i → IsKept diverging kept more steps registers
        → (m : ℕ) → code_after list m q ≡ code_after list (kept.made + 1 + m) (with_more diverging.runs.start diverging.runs.extra))
        → (m : ℕ) → code_after changed m q ≡ code_after changed (kept.made + 1 + m) start
    leads q other m =
        subst (λ list. code_after list m q ≡ code_after list (kept.made + 1 + m) (with_more is.start is.extra)) listed
        (other diverging divergence.steps listed place_is kept_there m)
        ∙ ap (code_after changed (kept.made + 1 + m)) start_is

  -- the run of the changed program stands behind some steps where another point stands, and goes on from there
  module _ (before : ℕ) (below : before < divergence.steps) (q r : Point) (same : r ≡ q) (list : List Instruction) (listed : list ≡ changed)
      (leads : (m : ℕ) → code_after changed m q ≡ code_after changed (before + 1 + m) start)
      (steps : ℕ) (steps_are : steps ≡ divergence.steps) (made place : ℕ) (registers : List ℤ) (turns : List Turn)
      (stands : point place registers turns ≡ code_after list made r) (few : made ≤ steps - before - 1)
      (rest : made < steps - before - 1 → (length list ≤ place) ⊎ CameBack list r made)
      (finish : Finish) (at_end : (f : Finish) → place ≡ ended_point f → finish ≡ f) (limit : place < 4294967296 → finish ≡ StepLimit) where
    -- what came back on the way from there came back on the way from the start
    back : CameBack changed q made → CameBack changed start (before + 1 + made)
    back b = record {
      before = before + 1 + b.before;
      since = b.since;
      sum = omega (arith, b.sum);
      there = subst (λ (r : Point). r.place < length changed) (leads b.before) b.there;
      back = subst (λ (r : Point). code_after changed (suc b.since) r ≡ r) (leads b.before) b.back;
    }

    rest_of_all : before + 1 + made < divergence.steps → (length changed ≤ place) ⊎ CameBack changed start (before + 1 + made)
    rest_of_all less =
        by (subst (λ list. (length list ≤ place) ⊎ CameBack list q made) listed
        (subst (λ r. (length list ≤ place) ⊎ CameBack list r made) same (rest (omega (arith, less, below, steps_are)))))
      where
        by : (length changed ≤ place) ⊎ CameBack changed q made → (length changed ≤ place) ⊎ CameBack changed start (before + 1 + made)
        by (inl out) = inl out
        by (inr b) = inr (back b)

    stands_so : point place registers turns ≡ code_after changed (before + 1 + made) start
    stands_so = stands ∙ (λ i. code_after (listed i) made (same i)) ∙ leads made

    few_of_all : before + 1 + made ≤ divergence.steps
    few_of_all = omega (arith, few, below, steps_are)

    -- the registers show how the run ends
    pub shown : are_held registers ≡ true → ShowsEnd run steps finish registers
    shown valid =
        subst (λ n. ShowsEnd run n finish registers) (sym steps_are)
        (ends.shows run is.statements code is.compiled start.registers start.turns begun
        divergence.steps (before + 1 + made) place registers turns stands_so few_of_all rest_of_all finish at_end limit valid)
