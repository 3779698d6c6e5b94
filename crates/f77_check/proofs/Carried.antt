-- What programs of one frame share: the actions, resolved statements, slots, shapes and starts of the one are those of the other.
use Rattle.f77_check.proofs.Common.{◌≡◌, ap, ◌∙◌, sym, map, subst, List, refl, ℕ, [], arith, ◌∷◌, Some, ◌++◌, ◌+◌, true, None, Bool, false, suc, zero, ◌==◌}
use Rattle.f77_check.proofs.Common.{replicate, cond, if◌then◌else◌, nat_lt, position, set, true≢false, ◌≢◌, length-set, not, nat_tests, length-map, same_Some}
use Rattle.f77_check.proofs.Common.{flat_map, find, slice_get, zip, prefix_len, option_and_then, Resolved, CanResolve, IsResolved, first_slot, shapes, AreJumps}
use Rattle.f77_check.proofs.Common.{AreResolved, Cell, is_cell, IsStartOf, cells, slot_kinds, IsAction, IsJump, initial_value, initial_values, Resolver, Start}
use Rattle.f77_check.proofs.Common.{first_numbers, framed, HaveOneFrame, frame, framed_line, groups_of, nth_statement, IsLegal, Symbol, bounds_of, kind_of}
use Rattle.f77_check.proofs.Common.{IsStock, LineFields, IsProgram, Statement, is_executable_statement, GroupFields, Constant, Kind, keys}
use Rattle.f77_legal.proofs.Frames.{groups_of-framed}
use Rattle.f77_legal.proofs.FrameNames.{by_frame, kind_of_same, bounds_of_same, is_array_same, elements_same, dummies_same}
use Rattle.f77_legal.proofs.SameFrame.{length_same, place_of_same, left_by_same, branch_end_same, terminal_same, behind_same, loops_ending_same}
use Rattle.f77_legal.proofs.Served.{tables_serve}
use Rattle.f77_actions.specs.declared.action.Action.{Action, Goto, ComputedGoto, ArithmeticIf, LogicalIf', Branch, Loop}
use Rattle.f77_actions.specs.declared.action.Jump.{Jump}

is_executable-framed : (s : Statement) → is_executable_statement (framed s) ≡ is_executable_statement s
is_executable-framed (Statement.BlockIf tree) = refl
is_executable-framed _ = refl

-- the first executable statement is that of the frame
before-frame : (p : List LineFields) → prefix_len (λ line. not (is_executable_statement line.stmt)) (frame p) ≡ prefix_len (λ line. not (is_executable_statement line.stmt)) p
before-frame [] = refl
before-frame (line ∷ lines) = λ k. cond (not (is_executable-framed line.stmt k)) (1 + before-frame lines k) 0

entry-frame : (p : List LineFields) → position (λ line. is_executable_statement line.stmt) (frame p) ≡ position (λ line. is_executable_statement line.stmt) p
entry-frame p = λ k. cond (nat_lt (before-frame p k) (length-map p framed_line k)) (Some (before-frame p k)) None

-- the groups of DATA are those of the frame
groups-frame : {Y : Type 0} (give : GroupFields → List Y) (p : List LineFields)
    → flat_map (λ line. flat_map give (groups_of line.stmt)) (frame p) ≡ flat_map (λ line. flat_map give (groups_of line.stmt)) p
groups-frame give [] = refl
groups-frame give (line ∷ lines) = λ k. flat_map give (groups_of-framed line.stmt k) ++ groups-frame give lines k

same_number : (n : ℕ) → (n == n) ≡ true
same_number n = grind (arith, nat_tests)

-- an item written over, and the others
set_here : (xs : List Resolved) (i : ℕ) (x y : Resolved) → slice_get (set xs i x) i ≡ Some y → x ≡ y
set_here [] i x y is = absurd (cc (is))
set_here (z ∷ xs) zero x y is = same_Some _ _ is
set_here (z ∷ xs) (suc i) x y is = set_here xs i x y is

set_there : (xs : List Resolved) (i j : ℕ) (x : Resolved) → i ≢ j → slice_get (set xs i x) j ≡ slice_get xs j
set_there [] i j x apart = refl
set_there (z ∷ xs) zero zero x apart = absurd (apart refl)
set_there (z ∷ xs) zero (suc j) x apart = refl
set_there (z ∷ xs) (suc i) zero x apart = refl
set_there (z ∷ xs) (suc i) (suc j) x apart = set_there xs i j x (λ same. apart (ap suc same))

module _ (p q : List LineFields) (same : HaveOneFrame p q) where
  jump_same : (i label : ℕ) (jump : Jump) → IsJump p i label jump → IsJump q i label jump
  jump_same i label jump is = record {
    target = sym (place_of_same p q same label) ∙ is.target;
    leaves = is.leaves ∙ left_by_same p q same i jump.target;
  }

  jumps_same : (i : ℕ) (labels : List ℕ) (jumps : List Jump) → AreJumps p i labels jumps → AreJumps q i labels jumps
  jumps_same i [] [] are = are
  jumps_same i [] (jump ∷ jumps) are = absurd are
  jumps_same i (label ∷ labels) [] are = absurd are
  jumps_same i (label ∷ labels) (jump ∷ jumps) are = (jump_same i label jump are.0, jumps_same i labels jumps are.1)

  -- names of the same kinds and bounds
  module _ (kinds : Symbol → Kind) (bounds : Symbol → List ℕ) (names : List Symbol) (i : ℕ) where
    does_same : (s : Statement) (a : Action) → IsAction kinds bounds names p i s a → IsAction kinds bounds names q i s a
    does_same (Statement.Assign name items tree) a is = is
    does_same (Statement.Goto label) (Goto jump) is = jump_same i label jump is
    does_same (Statement.ComputedGoto labels tree) (ComputedGoto value jumps) is = (is.0, jumps_same i labels jumps.items is.1)
    does_same (Statement.ArithIf tree first second third) (ArithmeticIf value negative middle positive) is =
        (is.0, jump_same i first negative is.1, jump_same i second middle is.2, jump_same i third positive is.3)
    does_same (Statement.LogicalIf tree statement) (LogicalIf' condition pointer action) is = (is.0, does_same statement action is.1)
    does_same (Statement.BlockIf tree) (Branch condition otherwise) is = (is.0, sym (branch_end_same p q same i) ∙ is.1)
    does_same (Statement.ElseIf tree) (Branch condition otherwise) is = (is.0, sym (branch_end_same p q same i) ∙ is.1)
    does_same (Statement.Loop label name first last step) (Loop variable from to by last_statement) is =
        (is.0, is.1, is.2, is.3, sym (terminal_same p q same i) ∙ is.4)
    does_same _ _ is = is

  kinds_same : kind_of p ≡ kind_of q
  kinds_same = λ k name. kind_of_same p q same name k

  bounds_same : bounds_of p ≡ bounds_of q
  bounds_same = λ k name. bounds_of_same p q same name k

  action_same : (names : List Symbol) (i : ℕ) (s : Statement) (a : Action) → IsAction (kind_of p) (bounds_of p) names p i s a
      → IsAction (kind_of q) (bounds_of q) names q i s a
  action_same names i s a is =
      subst (λ kinds. IsAction kinds (bounds_of q) names q i s a) kinds_same
      (subst (λ bounds. IsAction (kind_of p) bounds names q i s a) bounds_same
      (does_same (kind_of p) (bounds_of p) names i s a is))

  resolved_same : (names : List Symbol) (i : ℕ) (s : Statement) (r : Resolved) → IsResolved p names i s r → IsResolved q names i s r
  resolved_same names i s r is = record {
    action = action_same names i s r.action is.action;
    next = sym (behind_same p q same i) ∙ is.next;
    ends = is.ends ∙ loops_ending_same p q same i;
  }

  pub shapes_same : shapes p ≡ shapes q
  shapes_same = λ k.
      map (λ name. record {
        kind = kind_of_same p q same name k;
        elements = if is_array_same p q same name k then Some (elements_same p q same name k) else None;
      }) (dummies_same p q same k)

  initial_values_same : initial_values p ≡ initial_values q
  initial_values_same =
      by_frame (λ r. flat_map (λ line. flat_map (given p) (groups_of line.stmt)) r) (groups-frame (given p)) p q same
      ∙ (λ k. flat_map (λ line. flat_map (λ group. zip (cells_same group.names k) (constants group)) (groups_of line.stmt)) q)
    where
      constants : GroupFields → List Constant
      constants group = flat_map (λ value. replicate value.times value.constant) group.values

      given : List LineFields → GroupFields → List (Cell × Constant)
      given program group = zip (cells program group.names) (constants group)

      cells_same : (names : List Symbol) → cells p names ≡ cells q names
      cells_same names = λ k. flat_map (λ name. map (λ n. (name, n)) (first_numbers (elements_same p q same name k))) names

  pub initial_at_same : (name : Symbol) (n : ℕ) → initial_value p name n ≡ initial_value q name n
  initial_at_same name n = ap (λ all. option_and_then (λ given. Some given.1) (find (λ given. is_cell (name, n) given.0) all)) initial_values_same

  pub entry_same : position (λ line. is_executable_statement line.stmt) p ≡ position (λ line. is_executable_statement line.stmt) q
  entry_same = by_frame (position (λ line. is_executable_statement line.stmt)) entry-frame p q same

  pub start_same : (names : List Symbol) (start : Start) → IsStartOf p names start → IsStartOf q names start
  start_same names start is = record {
    entry = sym entry_same ∙ is.entry;
    dummies = (λ k. map (first_slot (sym bounds_same k) names) (sym (dummies_same p q same) k)) ∙ is.dummies;
    initial = is.initial ∙ (λ k. flat_map (λ name. map (λ n. initial_at_same name n k) (first_numbers (elements_same p q same name k))) names);
    kinds = is.kinds ∙ (λ k. slot_kinds (kinds_same k) (bounds_same k) names);
  }

  pub can_resolve_same : (r : Resolver) → CanResolve r p → IsStock (keys r.tables.names.facts) q → IsProgram None q → IsLegal q → CanResolve r q
  can_resolve_same r can stock formed legal = record {
    tables = tables_serve p q same r.tables can.tables;
    names = stock;
    slots = can.slots;
    formed = formed;
    legal = legal;
  }

  -- one statement is changed, and its resolved form
  pub all_resolved_same : (names : List Symbol) (i : ℕ) (list : List Resolved) (new : Resolved)
      → ((j : ℕ) → i ≢ j → nth_statement q j ≡ nth_statement p j) → AreResolved p names list
      → ((s : Statement) → nth_statement q i ≡ Some s → IsResolved q names i s new) → AreResolved q names (set list i new)
  all_resolved_same names i list new others are is = record {
    count = length-set list i new ∙ are.count ∙ length_same p q same;
    each = λ j s r at got. by j s r at got (i == j) refl;
  }
    where
      by : (j : ℕ) (s : Statement) (r : Resolved) → nth_statement q j ≡ Some s → slice_get (set list i new) j ≡ Some r → (b : Bool) → (i == j) ≡ b
          → IsResolved q names j s r
      by j s r at got true e =
          let here : i ≡ j = grind (arith, nat_tests) in
          let written : new ≡ r = set_here list i new r (ap (slice_get (set list i new)) here ∙ got) in
          subst (λ r. IsResolved q names j s r) written
          (subst (λ k. IsResolved q names k s new) here (is s (ap (nth_statement q) here ∙ at)))
      by j s r at got false e =
          let apart : i ≢ j = λ here. absurd (true≢false (sym (same_number j) ∙ ap (λ k. k == j) (sym here) ∙ e)) in
          resolved_same names j s r (are.each j s r (sym (others j apart) ∙ at) (sym (set_there list i j new apart) ∙ got))
