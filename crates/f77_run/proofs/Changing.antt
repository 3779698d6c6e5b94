-- One statement in the place of another: that it can be compiled there, and which of the registers are those of the program itself.
use Rattle.f77_run.proofs.Common.{◌≡◌, length, sym, ◌∙◌, ap, subst, List, arith, refl, ◌<◌, ℕ, Some, true, [], map, ◌∷◌, ◌++◌, None, ◌≤◌, ◌+◌, Bool, drop}
use Rattle.f77_run.proofs.Common.{Option, slice_get, suc, take, zero, ◌-◌, option_map, length-append, slice_set, IfSome, length-set, take_all, take-append-drop}
use Rattle.f77_run.proofs.Common.{take-append-add, and_parts, length-map, list_all-append, same_Some, slice_get_within, slice_get-get_or, list_all, fits}
use Rattle.f77_run.proofs.Common.{Action, Loop, Resolved, IsAction, CheckedFields, IsChecked, AreResolved, slot_count, first_slot, set_here, are_ready}
use Rattle.f77_run.proofs.Common.{is_ready, Cells, have_places, has_places, IsCode, is_held, own_instructions, HaveOneDo, HaveOneOwn, IsAllOwn, IsChangedCode}
use Rattle.f77_run.proofs.Common.{MayReplace, AgreeButAt, terminal_same, nth_statement, IsLegal, kind_of, bounds_of, Symbol, kinds_count, constant_value}
use Rattle.f77_run.proofs.Common.{line_of, LineFields, IsProgram, loaded, AreLoaded, IsChanged, changed_fields, ChangedFields, IsImage, BeginsImage, CanReplace}
use Rattle.f77_run.proofs.Common.{Change, Registers, Statement, Kind}
use Rattle.f77_program.specs.Patching.{Fits, patched}
use Rattle.f77_tree.specs.Statement.{statement_of}
use Rattle.f77_tree.specs.declared.statement.Stmt.{Stmt}
use Rattle.f77_legal.specs.Alone.{StandsAlone}
use Rattle.f77_legal.specs.Frames.{HaveOneFrame, frame, framed}
use Rattle.f77_legal.specs.Loops.{do_variable_of, terminal}
use Rattle.f77_legal.proofs.FrameNames.{bounds_of_same}
use Rattle.f77_legal.proofs.Frames.{variable_of-framed}
use Rattle.f77_check.specs.Patching.{IsInPlace}
use Rattle.f77_code.specs.declared.replacing.ChangedCode.{ChangedCode}
use Rattle.f77_meaning.proofs.Simulation.{statement_of as statement_at}
use Rattle.f77_run.proofs.Framed.{frames_same}
use Rattle.f77_run.proofs.Loaded.{loaded_count}
use Rattle.f77_run.proofs.Readiness.{all_ready, few_statements, have_all_places, places, ready}

-- the statement that is put in a place stands there
put_there : (statements : List Resolved) (i : ℕ) (new : Resolved) → i < length statements → slice_get (slice_set statements i new) i ≡ Some new
put_there statements i new below =
    let long = length-set statements i new in
    let at = slice_get-get_or (slice_set statements i new) i new (omega (arith, below, long)) in
    at ∙ ap (λ (r : Resolved). Some r) (sym (set_here statements i new _ at))

-- what of a statement stands in the frame of its program
framed_at : (p : List LineFields) (i : ℕ) (s : Statement) → nth_statement p i ≡ Some s → nth_statement (frame p) i ≡ Some (framed s)
framed_at [] i s at = absurd (cc (at))
framed_at (line ∷ lines) zero s at = ap (λ (s : Statement). Some (framed s)) (same_Some line.stmt s at)
framed_at (line ∷ lines) (suc i) s at = framed_at lines i s at

-- two DOs with one variable and one terminal statement have these when they are resolved
resolved_do : (p q : List LineFields) (names : List Symbol) (i : ℕ) (one other : Statement) (r s : Action) → do_variable_of one ≡ do_variable_of other
    → terminal p i ≡ terminal q i → bounds_of p ≡ bounds_of q → IsAction (kind_of p) (bounds_of p) names p i one r
    → IsAction (kind_of q) (bounds_of q) names q i other s → HaveOneDo r s
resolved_do p q names i (Statement.Loop label name a b c) (Statement.Loop far named d e f) (Loop variable x y z t) (Loop counter u v w k) one end bounds h g =
    let slot : first_slot (bounds_of p) names name ≡ first_slot (bounds_of q) names named
    = λ j. first_slot (bounds j) names (same_Some name named one j) in
    (same_Some counter variable (sym g.0 ∙ sym slot ∙ h.0), same_Some k t (sym g.4 ∙ sym end ∙ h.4))
resolved_do p q names i (Statement.Loop label name a b c) _ (Loop variable x y z t) (Loop counter u v w k) one end bounds h g = absurd g
resolved_do p q names i _ other (Loop variable x y z t) (Loop counter u v w k) one end bounds h g = absurd h
resolved_do p q names i one other (Loop variable x y z t) _ same end bounds h g = tt
resolved_do p q names i one other _ s same end bounds h g = tt

-- what stands at one place of two programs of one frame may be replaced when it is resolved
module _ (p q : List LineFields) (same : HaveOneFrame p q) (names : List Symbol) (before after : List Resolved) (old : AreResolved p names before)
    (new : AreResolved q names after) where
  may_replace : (i : ℕ) (r s : Resolved) → slice_get before i ≡ Some r → slice_get after i ≡ Some s → MayReplace r s
  may_replace i r s at there =
      let one = statement_at p names before old i r at in
      let other = statement_at q names after new i s there in
      let frames : framed one.0 ≡ framed other.0
      = same_Some _ _ (sym (framed_at p i one.0 one.1) ∙ ap (λ lines. nth_statement lines i) same ∙ framed_at q i other.0 other.1) in
      let variable : do_variable_of one.0 ≡ do_variable_of other.0
      = sym (variable_of-framed one.0) ∙ ap do_variable_of frames ∙ variable_of-framed other.0 in
      record {
        frame = frames_same p q same names before after old new i r s at there;
        loop =
            resolved_do p q names i one.0 other.0 r.action s.action variable (terminal_same p q same i) (λ k name. bounds_of_same p q same name k)
            one.2.action other.2.action;
      }

-- what passes of all items passes of the first of them
all_taken : {A : Type 0} (test : A → Bool) (n : ℕ) (xs : List A) → list_all test xs ≡ true → list_all test (take n xs) ≡ true
all_taken test n xs all =
    (and_parts (list_all test (take n xs)) (list_all test (drop n xs))
    (sym (list_all-append test (take n xs) (drop n xs)) ∙ ap (list_all test) (take-append-drop n xs) ∙ all)).0

module _ (checked : CheckedFields) (is : IsChecked checked) where
  abbrev p : List LineFields
  p = map line_of checked.program

  -- a checked program can be compiled
  pub checked_places : have_places checked.statements ≡ true
  checked_places = have_all_places p checked.names checked.statements is.legal is.statements

  pub checked_few : length checked.statements < 2147483648
  checked_few = few_statements p checked.names checked.statements is.legal is.statements

  pub checked_ready : are_ready checked.slots checked.statements ≡ true
  checked_ready = ap (λ n. are_ready n checked.statements) is.slots ∙ all_ready p checked.names checked.statements is.legal is.statements is.formed

  abbrev kinds : List Kind
  kinds = checked.start.kinds.items

  abbrev cells : Cells
  cells = map (option_map constant_value) checked.start.initial.items

  -- there is a register for each slot
  registers_many : length cells ≡ length kinds → length (loaded kinds cells) ≡ checked.slots
  registers_many long =
      loaded_count kinds cells long ∙ ap length is.start.kinds ∙ kinds_count (kind_of p) (bounds_of p) checked.names ∙ sym is.slots

  -- The registers at the start of runs, behind which constants of another
  -- statement may stand, begin with those of the program itself.
  pub image_begins : (code : ChangedCode) (image : Registers) → code.own ≤ length code.code.constants.values.items
      → IsImage checked code.code.constants.values.items image → BeginsImage checked code image
  image_begins code image within loads = record {
    registers = record {
      count = loads.registers.count;
      items =
          ap (take (checked.slots + code.own)) loads.registers.items
          ∙ ap (λ n. take (n + code.own) (loaded kinds cells ++ code.code.constants.values.items)) (sym (registers_many loads.registers.count))
          ∙ take-append-add (loaded kinds cells) code.code.constants.values.items code.own;
      held = all_taken is_held (checked.slots + code.own) image.items.items loads.registers.held;
      values = loads.registers.values;
      numbers = all_taken fits code.own code.code.constants.values.items loads.registers.numbers;
    };
    counters = loads.counters;
  }

  -- registers begin with the program's own also where constants were added to code that is the program's own
  pub grown_begins : (before after : ChangedCode) (image new : Registers) → IsAllOwn before → HaveOneOwn before after
      → IsImage checked before.code.constants.values.items image → take (length image.items.items) new.items.items ≡ image.items.items
      → new.counters.items ≡ image.counters.items → BeginsImage checked after new
  grown_begins before after image new own same loads kept counters =
      let values : take after.own after.code.constants.values.items ≡ before.code.constants.values.items
      = same.values ∙ take_all before.own before.code.constants.values.items (omega (arith, own.constants)) in
      let slots = registers_many loads.registers.count in
      let both = length-append (loaded kinds cells) before.code.constants.values.items in
      let whole = ap length loads.registers.items in
      let many : checked.slots + after.own ≡ length image.items.items = omega (arith, slots, both, whole, own.constants, same.count) in
      let first : take (checked.slots + after.own) new.items.items ≡ image.items.items = ap (λ n. take n new.items.items) many ∙ kept in
      record {
        registers =
            subst (λ constants. AreLoaded kinds cells constants (take (checked.slots + after.own) new.items.items)) (sym values)
            (subst (AreLoaded kinds cells before.code.constants.values.items) (sym first) loads.registers);
        counters = counters ∙ loads.counters;
      }

  module _ (number : ℕ) (stmt : Statement) (fit : Fits p number stmt) where
    -- there is a statement of this number
    pub fits_within : number - 1 < length checked.program
    fits_within =
        let within = slice_get_within p (number - 1) fit.line fit.at in
        let long = length-map checked.program line_of in
        omega (arith, within, long)

    pub place_within : number - 1 < length checked.statements
    place_within =
        let long = length-map checked.program line_of in
        omega (arith, fits_within, long, is.statements.count)

  module _ (number : ℕ) (stmt : Statement) (fit : Fits p number stmt) (new : Resolved) (legal : IsLegal (patched p number stmt))
      (in_place : IsInPlace checked number stmt new) where
    abbrev q : List LineFields
    q = patched p number stmt

    abbrev statements : List Resolved
    statements = slice_set checked.statements (number - 1) new

    -- the changed statement may be compiled in its place
    pub can_replace : CanReplace checked (number - 1) new
    can_replace =
        let here = put_there checked.statements (number - 1) new (place_within number stmt fit) in
        let slots : slot_count (bounds_of q) checked.names ≡ checked.slots
        = ap (λ (b : Symbol → List ℕ). slot_count b checked.names) (λ k name. sym (bounds_of_same p q in_place.frame name) k) ∙ sym is.slots in
        let many : length q ≡ length checked.statements = sym in_place.resolved.count ∙ length-set checked.statements (number - 1) new in
        record {
          may = by (slice_get checked.statements (number - 1)) refl here;
          places = subst (λ n. has_places n new ≡ true) many (places q checked.names statements legal in_place.resolved (number - 1) new here);
          ready =
              subst (λ n. is_ready n (length checked.statements) new.action ≡ true) slots
              (subst (λ n. is_ready (slot_count (bounds_of q) checked.names) n new.action ≡ true) many
              (ready q checked.names statements legal in_place.resolved in_place.formed (number - 1) new here));
        }
      where
        by : (o : Option Resolved) → slice_get checked.statements (number - 1) ≡ o → slice_get statements (number - 1) ≡ Some new
            → IfSome o (λ own. MayReplace own new)
        by None at here = tt
        by (Some own) at here =
            may_replace p q in_place.frame checked.names checked.statements statements is.statements in_place.resolved (number - 1) own new at here

    -- where its code is made, the program is changed
    pub put_in_place : (code : ChangedCode) (image : Registers) (kept : Stmt) → statement_of kept ≡ stmt → IsChangedCode checked.statements code
        → code.code.constants.slots ≡ checked.slots → IsImage checked code.code.constants.values.items image
        → IsCode statements code.code → AgreeButAt (number - 1) (own_instructions code) code.code.instructions.items
        → IsChanged (record { checked = checked; place = number - 1; stmt = Some kept }) code image
    put_in_place code image kept same own slots loads compiled others = record {
      checked = is;
      own = own;
      slots = slots;
      begins = loads;
      change = record {
        within = fits_within number stmt fit;
        formed = subst (λ s. IsProgram None (patched p number s)) (sym same) in_place.formed;
        legal = subst (λ s. IsLegal (patched p number s)) (sym same) legal;
        frame = subst (λ s. HaveOneFrame p (patched p number s)) (sym same) in_place.frame;
        statement = new;
        resolved = subst (λ s. AreResolved (patched p number s) checked.names statements) (sym same) in_place.resolved;
        compiled = compiled;
        others = others;
      };
    }

-- whatever is changed, the code and the registers begin with those of the program itself
pub none_changed : (checked : CheckedFields) (change : Option Change) (code : ChangedCode) (image : Registers)
    → IsChanged (changed_fields checked change) code image → IsChanged (changed_fields checked None) code image
none_changed checked None code image is = is
none_changed checked (Some change) code image is = record { checked = is.checked; own = is.own; slots = is.slots; begins = is.begins; change = tt }

-- the program is that of the fields
program_of : (checked : CheckedFields) (change : Option Change) (fields : ChangedFields) → changed_fields checked change ≡ fields → checked ≡ fields.checked
program_of checked None fields same = ap (λ (changed : ChangedFields). changed.checked) same
program_of checked (Some change) fields same = ap (λ (changed : ChangedFields). changed.checked) same

-- what a change asks of the program of the fields holds of it
module _ (checked : CheckedFields) (change : Option Change) (fields : ChangedFields) (view : changed_fields checked change ≡ fields) (number : ℕ)
    (stmt : Statement) where
  pub fits_here : Fits (map line_of fields.checked.program) number stmt → Fits (map line_of checked.program) number stmt
  fits_here = subst (λ (checked : CheckedFields). Fits (map line_of checked.program) number stmt) (sym (program_of checked change fields view))

  pub alone_here : StandsAlone fields.checked.names (map line_of fields.checked.program) (number - 1) stmt
      → StandsAlone checked.names (map line_of checked.program) (number - 1) stmt
  alone_here =
      subst (λ (checked : CheckedFields). StandsAlone checked.names (map line_of checked.program) (number - 1) stmt)
      (sym (program_of checked change fields view))

  pub legal_here : IsLegal (patched (map line_of fields.checked.program) number stmt) → IsLegal (patched (map line_of checked.program) number stmt)
  legal_here = subst (λ (checked : CheckedFields). IsLegal (patched (map line_of checked.program) number stmt)) (sym (program_of checked change fields view))
