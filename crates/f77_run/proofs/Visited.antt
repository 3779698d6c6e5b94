-- What was noted of a run of a program serves for its code beside that of a changed program.
use Rattle.f77_run.proofs.Common.{◌≡◌, length, sym, ◌∙◌, ap, subst, List, arith, refl, ◌<◌, ℕ, Some, true, ◌++◌, None, ◌≤◌, ℤ, Bool, drop, Option, slice_get}
use Rattle.f77_run.proofs.Common.{suc, take, zero, replicate, slice_set, ◌&&◌, IfSome, length-set, take-append-drop, length-take-le, and_parts, list_all-append}
use Rattle.f77_run.proofs.Common.{same_Some, slice_get_within, get_or_from_slice_get, list_all, All, fits, CheckedFields, IsChecked, code_after, HasSizes}
use Rattle.f77_run.proofs.Common.{first_time, IsPassed, AreCode, State, Point, point, are_held, is_held, own_instructions, put_back, KeptTime, Code}
use Rattle.f77_run.proofs.Common.{Instruction, IsRunningIn, AreFitting, Arg, loaded, counters_of, cells_at_start, IsFollowed, IsChanged, changed_fields}
use Rattle.f77_run.proofs.Common.{IsAtStart, IsChangeMade, RunOf, plan_of, IsDivergence, divergence_of, IsRun, site_in, Change, Registers, Visits, Kind}
use Rattle.f77_code.specs.declared.replacing.ChangedCode.{ChangedCode}
use Rattle.f77_code.specs.declared.replacing.OwnInstruction.{OwnInstruction}
use Rattle.f77_code.specs.declared.kept_step.KeptStep.{KeptStep}
use Rattle.f77_code.specs.declared.noting.Passed.{Passed}
use Rattle.f77_code.specs.KeptStep.{kept_time}
use Rattle.f77_code.specs.Simulation.{IsAt}
use Rattle.f77_code.specs.Twins.{AreTwins, HaveSlots, SameSlots, Twins}
use Rattle.f77_code.proofs.Twins.{times_of_twins, twins_equal}
use Rattle.f77_meaning.proofs.Moving.{all_nested, moves_by}
use Rattle.f77_run.proofs.Alongside.{loaded_constants}
use Rattle.f77_run.proofs.Starting.{initial_cells, own_run, slots_counted}
use Rattle.f77_run.proofs.Ends as ends
use Rattle.f77_run.proofs.Going as going

-- what holds of each item holds of this one
all_there : {A : Type 0} (P : A → Type 0) (xs : List A) (k : ℕ) (x : A) → All P xs → slice_get xs k ≡ Some x → P x
all_there P xs k x all at = subst P (get_or_from_slice_get xs k x x at) (all k x (slice_get_within xs k x at))

-- The code of the program itself, with its own constants alone.
own_length : (instructions : List Instruction) (o : Option OwnInstruction) → length (put_back instructions o) ≡ length instructions
own_length instructions None = refl
own_length instructions (Some replaced) = length-set instructions replaced.place replaced.own

abbrev own_code : (changed : ChangedCode) → changed.own ≤ length changed.code.constants.values.items → Code
own_code changed few =
    let list = changed.code.instructions in
    let values = changed.code.constants.values in
    record {
      instructions = record {
        ptr = list.ptr;
        len = list.len;
        cap = list.cap;
        alloc = list.alloc;
        items = own_instructions changed;
        ok = (list.ok.0 ∙ sym (own_length list.items changed.replaced), list.ok.1);
        small = list.small;
      };
      places = changed.code.places;
      constants = record {
        slots = changed.code.constants.slots;
        values = record {
          ptr = values.ptr;
          len = changed.own;
          cap = values.cap;
          alloc = values.alloc;
          items = take changed.own values.items;
          ok = (sym (length-take-le changed.own values.items few), omega (arith, few, values.ok.0, values.ok.1));
          small = values.small;
        };
      };
    }

-- what is kept of a time has as many registers as slots
have_slots : (n loops : ℕ) (first : Option KeptStep) → IfSome first (HasSizes n loops) → HaveSlots n (first_time first)
have_slots n loops None sizes j one at = absurd (cc (at))
have_slots n loops (Some kept) sizes zero one at =
    let same : kept_time kept ≡ one = same_Some (kept_time kept) one at in
    subst (λ (one : KeptTime). (length one.slots ≡ n) × (length one.slots_after ≡ n)) same (sizes.before, sizes.after)
have_slots n loops (Some kept) sizes (suc j) one at = absurd (cc (at))

-- two codes of a program at the start of the same run
module _ (checked : CheckedFields) (is : IsChecked checked) (arguments : List Arg) (fitting : AreFitting checked.arguments arguments) where
  abbrev run : RunOf
  run = own_run checked is arguments fitting

  abbrev kinds : List Kind
  kinds = checked.start.kinds.items

  runs : IsRun run checked.statements
  runs = record {
    checked = is;
    fitting = fitting;
    formed = is.formed;
    legal = is.legal;
    resolved = is.statements;
    frame = refl;
  }

  abbrev state : State
  state = ends.begins run checked.statements runs

  running : IsRunningIn (site_in run) checked.statements state
  running = ends.running run checked.statements runs

  module _ (code : Code) (start : Point) (starts : IsAtStart checked arguments code start) where
    many : code.constants.slots ≡ length kinds
    many = slots_counted checked is code.constants.slots starts.slots

    code_is : AreCode (plan_of kinds code.constants) checked.statements code.instructions.items
    code_is =
        going.are (site_in run) checked.statements state running kinds (ends.kinds_there run checked.statements runs) code starts.compiled many

    at_start : IsAt (plan_of kinds code.constants) checked.statements start state
    at_start =
        subst (λ (q : Point). IsAt (plan_of kinds code.constants) checked.statements q state) (λ i. point (sym starts.place i) start.registers start.turns)
        (going.starts (site_in run) checked.statements state running kinds (ends.kinds_there run checked.statements runs) code starts.compiled many
        start.registers starts.begins.loaded.items starts.begins.loaded.held starts.begins.loaded.values starts.begins.loaded.numbers start.turns starts.begins.counters)

  module _ (code : Code) (start : Point) (starts : IsAtStart checked arguments code start) (other : Code) (start_of_other : Point)
      (starts_of_other : IsAtStart checked arguments other start_of_other) where
    abbrev twins : Twins
    twins = record {
      statements = checked.statements;
      plan = plan_of kinds code.constants;
      code = code.instructions.items;
      start = start;
      plan_of_other = plan_of kinds other.constants;
      other = other.instructions.items;
      start_of_other = start_of_other;
      state = state;
    }

    are_twins : AreTwins twins
    are_twins = record {
      slots = refl;
      kind = refl;
      code = code_is code start starts;
      other = code_is other start_of_other starts_of_other;
      at = at_start code start starts;
      at_other = at_start other start_of_other starts_of_other;
      turns = starts_of_other.begins.counters ∙ sym starts.begins.counters;
    }

    same_behind : (n : ℕ) → SameSlots (length kinds) (code_after code.instructions.items n start) (code_after other.instructions.items n start_of_other)
    same_behind n =
        let move = moves_by (site_in run) checked.statements n state running in
        twins_equal twins n move.0 are_twins (all_nested (site_in run) checked.statements n state running) move.1

    -- what was noted in the run of one code is true of the other
    pub passed_of_other : (i n loops : ℕ) (passed : Passed) → IfSome passed.first (HasSizes checked.slots loops)
        → IsPassed code.instructions.items start (drop checked.slots start.registers) n i passed
        → IsPassed other.instructions.items start_of_other (drop checked.slots start_of_other.registers) n i passed
    passed_of_other i n loops passed sizes is_passed =
        let slots_are = slots_counted checked is checked.slots refl in
        times_of_twins twins (drop checked.slots start.registers) (drop checked.slots start_of_other.registers) i n (first_time passed.first) passed.more are_twins
        (λ k few. same_behind k) (ap (λ n. drop n start_of_other.registers) (sym slots_are))
        (subst (λ n. HaveSlots n (first_time passed.first)) slots_are (have_slots checked.slots loops passed.first sizes)) is_passed

-- where all numbers of a list pass a test, the first of them do
firsts_pass : (p : ℤ → Bool) (n : ℕ) (list : List ℤ) → list_all p list ≡ true → list_all p (take n list) ≡ true
firsts_pass p n list all =
    (and_parts (list_all p (take n list)) (list_all p (drop n list)) (sym (list_all-append p (take n list) (drop n list)) ∙ ap (list_all p) (take-append-drop n list) ∙ all)).0

module _ (checked : CheckedFields) (change : Change) (code : ChangedCode) (image : Registers) (is : IsChanged (changed_fields checked (Some change)) code image)
    (arguments : List Arg) (steps : ℕ) (visits : Visits) (follows : IsFollowed checked arguments steps visits) where
  abbrev values : List ℤ
  values = code.code.constants.values.items

  made : IsChangeMade (changed_fields checked (Some change)) code
  made = is.change

  -- there is what was noted of the changed statement
  pub place_within : change.place < length visits.list.items
  place_within = let here = made.within in omega (arith, here, follows.count)

  abbrev own : Code
  own = own_code code is.own.own

  abbrev slots : List ℤ
  slots = loaded checked.start.kinds.items (cells_at_start checked arguments)

  abbrev start : Point
  start = point checked.start.entry (slots ++ take code.own values) (counters_of checked.statements (replicate (length checked.program) None))

  slots_held : are_held slots ≡ true
  slots_held =
      let loads = follows.starts.begins.loaded in
      (and_parts (are_held slots) (are_held follows.code.constants.values.items)
      (sym (list_all-append is_held slots follows.code.constants.values.items) ∙ ap are_held (sym loads.items) ∙ loads.held)).0

  constants_held : are_held (take code.own values) ≡ true
  constants_held =
      firsts_pass is_held code.own values
      (loaded_constants checked.start.kinds.items (initial_cells checked is.checked) values image.items.items is.begins.registers)

  starts : IsAtStart checked arguments own start
  starts = record {
    compiled = record { places = is.own.places; compiled = is.own.compiled own.constants (record { slots = refl; values = refl }) };
    slots = is.slots;
    place = refl;
    begins = record {
      loaded = record {
        count = follows.starts.begins.loaded.count;
        items = refl;
        held = list_all-append is_held slots (take code.own values) ∙ (λ i. slots_held i && constants_held i);
        values = follows.starts.begins.loaded.values;
        numbers = firsts_pass fits code.own values is.begins.registers.numbers;
      };
      counters = refl;
    };
  }

  -- the run of the changed program may begin where it diverges from that of the program
  pub is_divergence : (passed : Passed) → slice_get visits.list.items change.place ≡ Some passed
      → IsDivergence (divergence_of checked change arguments steps passed) checked code.code image
  is_divergence passed at = record {
    checked_is = refl;
    statements = slice_set checked.statements change.place made.statement;
    compiled = record {
      of = record {
        checked = is.checked;
        fitting = follows.fitting;
        formed = made.formed;
        legal = made.legal;
        resolved = made.resolved;
        frame = made.frame;
      };
      code_is = made.compiled;
      slots = is.slots;
    };
    begins = is.begins;
    own = own;
    start = start;
    starts = starts;
    extra = drop code.own values;
    constants = sym (take-append-drop code.own values);
    agree = made.others;
    passed_is = passed_of_other checked is.checked arguments follows.fitting follows.code follows.start follows.starts own start starts change.place steps
        (length follows.start.turns) passed sizes (follows.passed change.place passed at);
    sizes = subst (λ n. IfSome passed.first (HasSizes checked.slots n)) (ap length follows.starts.begins.counters) sizes;
  }
    where
      sizes : IfSome passed.first (HasSizes checked.slots (length follows.start.turns))
      sizes = all_there (λ passed. IfSome passed.first (HasSizes checked.slots (length follows.start.turns))) visits.list.items change.place passed follows.sizes at
