-- When a program can be judged by its changed statement alone, and what follows then.
use Rattle.f77_check.proofs.Common.{◌≡◌, ap, ◌∙◌, sym, map, subst, List, refl, ℕ, [], arith, length, ◌∷◌, Some, true, ◌<◌, None, get_or, Bool, ◌-◌, false}
use Rattle.f77_check.proofs.Common.{Option, is_some, ◌==◌, option_map, cond, filter, set, true≢false, inl, inr, reverse, cases_lt, nat_tests, length-map}
use Rattle.f77_check.proofs.Common.{length-reverse, same_Some, slice_get-map, slice_get_read, slice_get_past, slice_get_within, find, slice_get, AllZip}
use Rattle.f77_check.proofs.Common.{option_and_then, option_map_or, Resolved, CanResolve, IsChecked, CheckedFields, IsResolved, shapes, AreResolved}
use Rattle.f77_check.proofs.Common.{checked_fields, IsStartOf, IsInPlace, IsChangedAlone, FrameStays, Resolver, Start, symbols_pass, among_kept, executed}
use Rattle.f77_check.proofs.Common.{is_executed, statement_behind, statement_numbers, framed, HaveOneFrame, nth_statement, label_place, terminal_label, IsLegal}
use Rattle.f77_check.proofs.Common.{first_clause, faults, first_fault, has_name, Symbol, name_in, IsStock, is_name_among, names_pass, Serve, Names, patched}
use Rattle.f77_check.proofs.Common.{replaced, LineFields, line_of, IsProgram, Line, Statement, keys}
use Rattle.f77_tree.specs.StatementGrammar.{IsFormed}
use Rattle.f77_legal.specs.Broken.{clause_found, has_known_names}
use Rattle.f77_legal.specs.Clause.{clause_fault}
use Rattle.f77_legal.specs.Loops.{terminal, ends_at, loops_ending}
use Rattle.f77_legal.specs.Alone.{MayStandAt, NamesAmong, StandsAlone}
use Rattle.f77_legal.specs.declared.broken.Broken.{Broken}
use Rattle.f77_legal.specs.declared.fault.CheckFault.{CheckFault}
use Rattle.f77_legal.proofs.Alone.{alone_fault, alone_frame, alone_stock}
use Rattle.f77_legal.proofs.Branches.{found_some}
use Rattle.f77_legal.proofs.Replaced.{other_line, changed_line}
use Rattle.f77_legal.proofs.SameFrame.{behind_same}
use Rattle.f77_check.specs.declared.checked.Shape.{Shape}
use Rattle.f77_check.proofs.Carried.{all_resolved_same, can_resolve_same, shapes_same, start_same}
use Rattle.f77_check.proofs.CheckedParts.{checked_of}
use Rattle.f77_check.proofs.KeptNames.{uses_at}

-- any statement may stand where no DO ends
none_reversed : (xs : List ℕ) → reverse xs ≡ [] → xs ≡ []
none_reversed [] none = refl
none_reversed (x ∷ xs) none = let long = length-reverse (x ∷ xs) in let empty = ap length none in absurd (omega (arith, long, empty))

none_filtered : (test : ℕ → Bool) (xs : List ℕ) → filter test xs ≡ [] → find test xs ≡ None
none_filtered test [] none = refl
none_filtered test (x ∷ xs) none = by (test x) refl (none_filtered test xs)
  where
    by : (b : Bool) → test x ≡ b → (filter test xs ≡ [] → find test xs ≡ None) → find test (x ∷ xs) ≡ None
    by true e later = absurd (cc (sym (ap (λ b. cond b (x ∷ filter test xs) (filter test xs)) e) ∙ none))
    by false e later = rw e (later (sym (ap (λ b. cond b (x ∷ filter test xs) (filter test xs)) e) ∙ none))

loop_within : (p : List LineFields) (d i : ℕ) → terminal p d ≡ Some i → d < length p
loop_within p d i ends = elim (cases_lt d (length p)) [
  | inl lt ↦ lt
  | inr le ↦
      let none = ap (λ (o : Option LineFields). option_and_then (label_place p) (option_and_then terminal_label (option_map (λ line. line.stmt) o))) (slice_get_past p d le) in
      absurd (cc (none, ends))
]

ends_there : (p : List LineFields) (d i : ℕ) → terminal p d ≡ Some i → ends_at p i d ≡ true
ends_there p d i ends = ap (λ o. option_map_or (λ e. e == i) o false) ends ∙ same
  where
    same : (i == i) ≡ true
    same = grind (arith, nat_tests)

may_stand_anywhere : (p : List LineFields) (i : ℕ) (s : Statement) → loops_ending p i ≡ [] → MayStandAt p i s
may_stand_anywhere p i s none = λ d ends.
    let found = found_some (ends_at p i) (length p) d (ends_there p d i ends) (loop_within p d i ends) in
    let lost = none_filtered (ends_at p i) (statement_numbers p) (none_reversed (filter (ends_at p i) (statement_numbers p)) none) in
    absurd (true≢false (sym found ∙ ap is_some lost))

no_items : (xs : List ℕ) → (length xs == 0) ≡ true → xs ≡ []
no_items [] none = refl
no_items (x ∷ xs) none = absurd (true≢false (sym none ∙ more))
  where
    more : (length (x ∷ xs) == 0) ≡ false
    more = grind (arith, nat_tests)

-- the resolved form of a statement says which DOs end at it
pub may_stand_by : (checked : CheckedFields) → IsChecked checked → (i : ℕ) (s : Statement) (line : LineFields) → slice_get (map line_of checked.program) i ≡ Some line
    → (r : Resolved) → r ≡ get_or checked.statements i r → (length r.ends.items == 0) ≡ true → MayStandAt (map line_of checked.program) i s
may_stand_by checked is i s line at r read none =
    let p = map line_of checked.program in
    let got : slice_get checked.statements i ≡ Some r = slice_get_read checked.statements (length p) i r (sym is.statements.count) (slice_get_within p i line at) read in
    may_stand_anywhere p i s
    (sym (is.statements.each i line.stmt r (ap (option_map (λ (line : LineFields). line.stmt)) at) got).ends ∙ no_items r.ends.items none)

pub statement_within : (checked : CheckedFields) → IsChecked checked → (i : ℕ) (line : LineFields) → slice_get (map line_of checked.program) i ≡ Some line
    → i < length checked.statements
statement_within checked is i line at =
    let within = slice_get_within (map line_of checked.program) i line at in
    let long = is.statements.count in
    omega (arith, within, long)

-- a list that is copied
pub same_items : {X : Type 0} (xs ys : List X) → AllZip (λ x y. y ≡ x) xs ys → ys ≡ xs
same_items [] [] all = refl
same_items [] (y ∷ ys) all = absurd all
same_items (x ∷ xs) [] all = absurd all
same_items (x ∷ xs) (y ∷ ys) all = rw (all.0, same_items xs ys all.1) refl

-- the line that is read
pub line_read : (lines : List Line) (i : ℕ) (x : Line) (line : LineFields) → slice_get (map line_of lines) i ≡ Some line → x ≡ get_or lines i x → line_of x ≡ line
line_read lines i x line at read =
    let within = slice_get_within (map line_of lines) i line at in
    let long = length-map lines line_of in
    let got : slice_get lines i ≡ Some x = slice_get_read lines (length lines) i x refl (omega (arith, within, long)) read in
    same_Some (line_of x) line (sym (slice_get-map line_of lines i ∙ ap (option_map line_of) got) ∙ at)

-- the frame has the whole of a statement that is not executable
unframed : (t s : Statement) → is_executed s ≡ false → s ≡ framed t → s ≡ t
unframed (Statement.Subroutine name names) s e same = same
unframed (Statement.Declare kind declarations) s e same = same
unframed (Statement.Dimension declarations) s e same = same
unframed (Statement.Preset groups) s e same = same
unframed _ s e same = absurd (true≢false (ap is_executed (sym same) ∙ e))

module _ (names : Names) (p : List LineFields) (stock : IsStock (keys names.facts) p) (i : ℕ) (t : Statement) (at : nth_statement p i ≡ Some t) where
  there_among : NamesAmong (keys names.facts) t
  there_among = uses_at (λ name_use. is_name_among (keys names.facts) (name_in name_use)) p (symbols_pass (keys names.facts) p stock.covers) i t at

  same_among : (s : Statement) → s ≡ t → NamesAmong (keys names.facts) s
  same_among s same = subst (NamesAmong (keys names.facts)) (sym same) there_among

  -- the names of a statement of the same frame are among those of the table, where the table has those that are executed
  among_framed : (s : Statement) → IsFormed s → framed s ≡ framed t → names_pass (has_name names) s ≡ true → NamesAmong (keys names.facts) s
  among_framed (Statement.Subroutine name dummies) formed same pass = same_among _ (unframed t _ refl same)
  among_framed (Statement.Declare kind declarations) formed same pass = same_among _ (unframed t _ refl same)
  among_framed (Statement.Dimension declarations) formed same pass = same_among _ (unframed t _ refl same)
  among_framed (Statement.Preset groups) formed same pass = same_among _ (unframed t _ refl same)
  among_framed Statement.End formed same pass = refl
  among_framed s formed same pass = among_kept names s (executed s formed refl) pass

-- a statement whose names the table has stands alone where the frame stays
pub alone_where_kept : (r : Resolver) (p : List LineFields) → CanResolve r p → (i : ℕ) (s : Statement) → IsFormed s → FrameStays p i s
    → names_pass (has_name r.tables.names) s ≡ true → StandsAlone (keys r.tables.names.facts) p i s
alone_where_kept r p can i s formed stays pass = record {
  line = stays.line;
  at = stays.at;
  frame = stays.frame;
  ends = stays.ends;
  among = among_framed r.tables.names p can.names i stays.line.stmt (ap (option_map (λ (line : LineFields). line.stmt)) stays.at) s formed stays.frame pass;
}

-- a program is legal where it has no first fault
no_fault : (list : List CheckFault) → slice_get list 0 ≡ None → list ≡ []
no_fault [] none = refl
no_fault (fault ∷ list) none = absurd (cc (none))

-- what the tables of a program say of the changed statement, where they have its names and the frame stays
module _ (r : Resolver) (p : List LineFields) (can : CanResolve r p) (i : ℕ) (s : Statement) (formed : IsFormed s) (stays : FrameStays p i s) (broken : Broken)
    (names : names_pass (has_name r.tables.names) s ≡ has_known_names broken)
    (first : Serve r.tables p → has_known_names broken ≡ true → clause_found broken ≡ first_clause p i s) (known : has_known_names broken ≡ true) where
  pub found_alone : StandsAlone (keys r.tables.names.facts) p i s
  found_alone = alone_where_kept r p can i s formed stays (names ∙ known)

  pub found_fault : first_fault (replaced p i s) ≡ option_map (λ clause. clause_fault clause stays.line.line) (clause_found broken)
  unfolding found_alone alone_where_kept
  found_fault =
      alone_fault (keys r.tables.names.facts) p i s found_alone can.legal can.names
      ∙ ap (option_map (λ clause. clause_fault clause stays.line.line)) (sym (first can.tables known))

  pub found_legal : clause_found broken ≡ None → IsLegal (replaced p i s)
  found_legal none = no_fault (faults (replaced p i s)) (found_fault ∙ ap (option_map (λ clause. clause_fault clause stays.line.line)) none)

-- a program that is changed in the statement i alone, by the tables of the checked one
module _ (r : Resolver) (p q : List LineFields) (i : ℕ) (can : CanResolve r p) (change : IsChangedAlone (keys r.tables.names.facts) p i q) where
  changed_frame : HaveOneFrame p q
  changed_frame = subst (HaveOneFrame p) (sym change.changed) (sym (alone_frame (keys r.tables.names.facts) p i change.statement change.alone))

  pub changed_can : IsProgram None q → CanResolve r q
  changed_can formed =
      can_resolve_same p q changed_frame r can
      (subst (IsStock (keys r.tables.names.facts)) (sym change.changed) (alone_stock (keys r.tables.names.facts) p i change.statement change.alone can.names))
      formed change.legal

  changed_shapes : shapes p ≡ shapes q
  changed_shapes = shapes_same p q changed_frame

  changed_start : (start : Start) → IsStartOf p (keys r.tables.names.facts) start → IsStartOf q (keys r.tables.names.facts) start
  changed_start start is = start_same p q changed_frame (keys r.tables.names.facts) start is

-- with the changed statement resolved in its place, the statements resolved are those of the changed program
module _ (names : List Symbol) (p : List LineFields) (i : ℕ) (s : Statement) (alone : StandsAlone names p i s) where
  changed_here : nth_statement (replaced p i s) i ≡ Some s
  changed_here = ap (option_map (λ (line : LineFields). line.stmt)) (changed_line p i alone.line s alone.at)

  changed_behind : (next : ℕ) → statement_behind p i ≡ Some next → statement_behind (replaced p i s) i ≡ Some next
  changed_behind next is = behind_same (replaced p i s) p (alone_frame names p i s alone) i ∙ is

  in_its_place : (list : List Resolved) (new : Resolved) → AreResolved p names list → IsResolved (replaced p i s) names i s new
      → AreResolved (replaced p i s) names (set list i new)
  in_its_place list new are is =
      all_resolved_same p (replaced p i s) (sym (alone_frame names p i s alone)) names i list new
      (λ j apart. ap (option_map (λ (line : LineFields). line.stmt)) (other_line p i j s apart)) are
      (λ t at. subst (λ t. IsResolved (replaced p i s) names i t new) (same_Some _ _ (sym changed_here ∙ at)) is)

-- a checked program and what it keeps, which is changed in the statement i alone
module _ (checked : CheckedFields) (is : IsChecked checked) (i : ℕ) (s : Statement) (alone : StandsAlone checked.names (map line_of checked.program) i s) where
  -- the tables with which the changed statement is resolved
  pub changed_resolvable : (r : Resolver) → CanResolve r (map line_of checked.program) → keys r.tables.names.facts ≡ checked.names
      → (list : List Resolved) → list ≡ checked.statements → (own : Resolved) → own ≡ get_or list i own
      → (q : List LineFields) → q ≡ replaced (map line_of checked.program) i s → IsProgram None q → IsLegal q
      → (nth_statement q i ≡ Some s) × ((statement_behind q i ≡ Some own.next) × CanResolve r q)
  changed_resolvable r can named list same own read q changed formed legal =
      let p = map line_of checked.program in
      let change : IsChangedAlone (keys r.tables.names.facts) p i q = record {
        statement = s;
        alone = subst (λ names. StandsAlone names p i s) (sym named) alone;
        changed = changed;
        legal = legal;
      } in
      let within = statement_within checked is i alone.line alone.at in
      let below = subst (λ n. i < n) (ap length (sym same)) within in
      let got : slice_get checked.statements i ≡ Some own = ap (λ list. slice_get list i) (sym same) ∙ slice_get_read list (length list) i own refl below read in
      let at : nth_statement p i ≡ Some alone.line.stmt = ap (option_map (λ (line : LineFields). line.stmt)) alone.at in
      let next : statement_behind p i ≡ Some own.next = (is.statements.each i alone.line.stmt own at got).next in (
        subst (λ q. nth_statement q i ≡ Some s) (sym changed) (changed_here checked.names p i s alone),
        (
          subst (λ q. statement_behind q i ≡ Some own.next) (sym changed) (changed_behind checked.names p i s alone own.next next),
          changed_can r p q i can change formed,
        ),
      )

pub changed_in_place : (checked : CheckedFields) → IsChecked checked → (number : ℕ) (s : Statement)
    → StandsAlone checked.names (map line_of checked.program) (number - 1) s → IsProgram None (patched (map line_of checked.program) number s) → (new : Resolved)
    → IsResolved (patched (map line_of checked.program) number s) checked.names (number - 1) s new → IsInPlace checked number s new
changed_in_place checked is number s alone formed new resolved = record {
  formed = formed;
  frame = sym (alone_frame checked.names (map line_of checked.program) (number - 1) s alone);
  resolved = in_its_place checked.names (map line_of checked.program) (number - 1) s alone checked.statements new is.statements resolved;
}

-- the parts of the changed program
pub changed_parts : (checked : CheckedFields) → IsChecked checked → (r : Resolver) → CanResolve r (map line_of checked.program) → keys r.tables.names.facts ≡ checked.names
    → (program : List Line) (i : ℕ) → IsChangedAlone checked.names (map line_of checked.program) i (map line_of program) → IsProgram None (map line_of program)
    → (arguments : List Shape) → arguments ≡ checked.arguments → (statements : List Resolved) → AreResolved (map line_of program) checked.names statements
    → (start : Start) → start ≡ checked.start
    → IsChecked (checked_fields program arguments r statements start) × CanResolve r (map line_of program)
changed_parts checked is r can named program i change formed arguments same_arguments statements resolved start same_start =
    let p = map line_of checked.program in
    let q = map line_of program in
    let own : IsChangedAlone (keys r.tables.names.facts) p i q = subst (λ names. IsChangedAlone names p i q) (sym named) change in
    let starts : IsStartOf p (keys r.tables.names.facts) start = subst (λ names. IsStartOf p names start) (sym named) (subst (IsStartOf p checked.names) (sym same_start) is.start) in
    checked_of program q arguments r statements start refl (changed_can r p q i can own formed)
    (same_arguments ∙ is.arguments ∙ changed_shapes r p q i can own)
    (subst (λ names. AreResolved q names statements) (sym named) resolved)
    (changed_start r p q i can own start starts)
