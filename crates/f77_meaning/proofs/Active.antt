-- In a run of a legal program the place of control decides which DOs are active.
use Rattle.f77_meaning.proofs.Common.{List, ℕ, ◌≡◌, refl, Some, true, ap, arith, ◌∙◌, None, false, sym, Bool, Option, suc, zero, ◌<◌, inr, inl, subst}
use Rattle.f77_meaning.proofs.Common.{option_map, ℤ, slice_get, if◌then◌else◌, pos, Err, Ok, Result, negsuc, ◌==◌, nat_lt, ◌&&◌, ◌-◌, ◌||◌, IsSome, is_some}
use Rattle.f77_meaning.proofs.Common.{lt-ltb, not, ◌+ℤ◌, MatchOption, ◌⊎◌, and_parts, and_from, false_from_ne_true, position-Some, get_or_from_slice_get}
use Rattle.f77_meaning.proofs.Common.{option_and_then_some, both_ways, list_any, option_and_then, in_range, trip_count, Fault, Value, item_chosen, by_sign}
use Rattle.f77_meaning.proofs.Common.{inner_acts, some_terminal, some_of, nth_statement, label_place, terminal_label, IsLegal, terminal, range_holds, Symbol}
use Rattle.f77_meaning.proofs.Common.{bounds_of, kind_of, Store, store_with, place, number, truth, value, Comes, IsStart, AreActive, ActiveByPlace, Config}
use Rattle.f77_meaning.proofs.Common.{config, Execute, Next, Goes, GoesOn, Turns, Begins, Increment, Increments, Passes, Place, Turn, With, step_number, Either}
use Rattle.f77_meaning.proofs.Common.{Executes, Jumps, StepAt, Skips, is_action, LineFields, IsProgram, Statement, is_executable_statement, jumps_of, Tree}
use Rattle.f77_meaning.proofs.Common.{Trees}
use Rattle.f77_actions.specs.declared.value.Value.TheVariants as held
use Rattle.f77_meaning.proofs.Branching.{ranges_skipped}
use Rattle.f77_meaning.proofs.Control.{chosen_label, one_label}
use Rattle.f77_meaning.proofs.GoingOn.{Keeps, keeps_on, keeps_passes}
use Rattle.f77_meaning.proofs.Jumping.{jump_from}
use Rattle.f77_meaning.proofs.Nested.{in_range as is_in_range, no_loop}
use Rattle.f77_meaning.proofs.Numbered.{numbered_among}

with_each : {A : Type 0} (p : List LineFields) (r : Result A Fault) (s : Store) (n : Next) (P : A → Type 0) → ((x : A) → P x → Keeps p n) → With r s n P → Keeps p n
with_each p (Ok x) s n P each h = each x h
with_each p (Err f) s n P each h = subst (Keeps p) (sym h) tt

either_way : (p : List LineFields) (b : Bool) (n : Next) (P Q : Type 0) → (P → Keeps p n) → (Q → Keeps p n) → Either b P Q → Keeps p n
either_way p true n P Q f g h = f h
either_way p false n P Q f g h = g h

-- a DO that a jump leaves is active no more, and another as before
left_so : (a b : Bool) (o : Option Turn) → is_some o ≡ a → (b ≡ true → a ≡ true) → is_some (if a && not b then None else o) ≡ b
left_so true true o is from = is
left_so true false o is from = refl
left_so false true o is from = absurd (cc (from refl))
left_so false false o is from = is

loop_executable : (s : Statement) (label : ℕ) → terminal_label s ≡ Some label → is_executable_statement s ≡ true
loop_executable (Statement.Loop label name a b c) other names = refl
loop_executable _ other names = absurd (cc (names))

module _ (p : List LineFields) (program : IsProgram None p) (legal : IsLegal p) where
  module _ (i : ℕ) (active : Turns) (are : (d : ℕ) → is_some (active d) ≡ range_holds p d i) where
    goes_on : terminal p i ≡ None → (s : Store) (n : Next) → GoesOn p i s active n → Keeps p n
    goes_on no_do s n on =
        keeps_on p legal i i active no_do (λ e u low below ends. absurd (omega (arith, low, below)))
        (λ e. are e ∙ both_ways (range_holds p e i) (range_holds p e i && nat_lt e i)
        (λ h. and_from (range_holds p e i) (nat_lt e i) h (lt-ltb e i (is_in_range p e i h).before)) (λ h. (and_parts (range_holds p e i) (nat_lt e i) h).0)) s n on

    jumps : (stmt : Statement) → nth_statement p i ≡ Some stmt → (label : ℕ) → list_any (λ l. l == label) (jumps_of stmt) ≡ true → (s : Store) (n : Next)
        → Jumps p i label s active n → Keeps p n
    jumps stmt at label among s n to =
        subst (Keeps p) (sym to.2)
        (λ d. left_so (range_holds p d i) (range_holds p d to.0) (active d) (are d) (jump_from p legal i stmt label to.0 at among to.1 d))

    skips : (t : Tree) → (nth_statement p i ≡ Some (Statement.BlockIf t)) ⊎ (nth_statement p i ≡ Some (Statement.ElseIf t)) → (s : Store) (n : Next)
        → Skips p i s active n → Keeps p n
    skips t at s n to = subst (Keeps p) (sym to.2) (λ d. are d ∙ ranges_skipped p legal i to.0 t at to.1 d)

    -- what a statement needs where it is executed by itself or in a logical IF
    record Ready (stmt : Statement) : Type 0 where
      on : terminal_label stmt ≡ None → (s : Store) (n : Next) → GoesOn p i s active n → Keeps p n
      to : (label : ℕ) → list_any (λ l. l == label) (jumps_of stmt) ≡ true → (s : Store) (n : Next) → Jumps p i label s active n → Keeps p n

    action : (stmt : Statement) → is_action stmt ≡ true → Ready stmt → (s : Store) (n : Next) → Executes p i stmt s active n → Keeps p n
    action (Statement.Assign name items t) acts ready s n =
        with_each p (place (bounds_of p) s name items) s n _
        (λ k. with_each p (value (kind_of p name) (bounds_of p) s t) s n _ (λ v. ready.on refl (store_with s name k v) n))
    action (Statement.Goto label) acts ready s n = ready.to label (one_label label) s n
    action (Statement.ComputedGoto labels t) acts ready s n = with_each p (number (bounds_of p) s t) s n _ (λ z. by z (item_chosen labels z) refl)
      where
        by : (z : ℤ) (o : Option ℕ) → item_chosen labels z ≡ o → MatchOption o (GoesOn p i s active n) (λ label. Jumps p i label s active n) → Keeps p n
        by z None is = ready.on refl s n
        by z (Some label) is = ready.to label (numbered_among labels z label is) s n
    action (Statement.ArithIf t l m r) acts ready s n =
        with_each p (number (bounds_of p) s t) s n _ (λ z. ready.to (by_sign z l m r) (chosen_label z l m r) s n)
    action Statement.Continue acts ready s n = ready.on refl s n
    action Statement.Return acts ready s n = λ ends. subst (Keeps p) (sym ends) tt
    action Statement.Stop acts ready s n = λ ends. subst (Keeps p) (sym ends) tt
    action Statement.Trap acts ready s n = λ ends. subst (Keeps p) (sym ends) tt
    action _ acts ready s n = absurd (cc (acts))

  -- the DO d makes its passes
  passes : (d : ℕ) (stmt : Statement) (active : Turns) → nth_statement p d ≡ Some stmt → IsSome (terminal_label stmt)
      → ((e : ℕ) → (d == e) ≡ false → is_some (active e) ≡ range_holds p e d) → (k : ℕ) (step : ℤ) (s : Store) (n : Next) → Passes p d k step s active n → Keeps p n
  passes d stmt active at loop round =
      let end = some_of (terminal p d) (some_terminal p legal d stmt at loop) in
      keeps_passes p legal d active round end.0 end.1

  begins : (d : ℕ) (stmt : Statement) (active : Turns) → nth_statement p d ≡ Some stmt → IsSome (terminal_label stmt)
      → ((e : ℕ) → is_some (active e) ≡ range_holds p e d) → (name : Symbol) (first last step : ℤ) (s : Store) (n : Next)
      → Begins p d name first last step s active n → Keeps p n
  begins d stmt active at loop are name first last (pos zero) s n = λ ends. subst (Keeps p) (sym ends) tt
  begins d stmt active at loop are name first last (pos (suc m)) s n =
      passes d stmt active at loop (λ e apart. are e) (trip_count first last (pos (suc m))) (pos (suc m)) (store_with s name 0 (held.Number first)) n
  begins d stmt active at loop are name first last (negsuc m) s n =
      passes d stmt active at loop (λ e apart. are e) (trip_count first last (negsuc m)) (negsuc m) (store_with s name 0 (held.Number first)) n

  executes : (i : ℕ) (active : Turns) → ((d : ℕ) → is_some (active d) ≡ range_holds p d i) → (stmt : Statement) → nth_statement p i ≡ Some stmt
      → (s : Store) (n : Next) → Executes p i stmt s active n → Keeps p n
  executes i active are stmt at s n = by stmt at
    where
      ready : (stmt : Statement) → nth_statement p i ≡ Some stmt → Ready i active are stmt
      ready stmt at = record { on = λ none. goes_on i active are (no_loop p i stmt at none); to = jumps i active are stmt at }

      acted : (stmt : Statement) → nth_statement p i ≡ Some stmt → is_action stmt ≡ true → Executes p i stmt s active n → Keeps p n
      acted stmt at acts = action i active are stmt acts (ready stmt at) s n

      on : (stmt : Statement) → nth_statement p i ≡ Some stmt → terminal_label stmt ≡ None → GoesOn p i s active n → Keeps p n
      on stmt at none = goes_on i active are (no_loop p i stmt at none) s n

      by : (stmt : Statement) → nth_statement p i ≡ Some stmt → Executes p i stmt s active n → Keeps p n
      by (Statement.LogicalIf t inner) at =
          let whole = ready (Statement.LogicalIf t inner) at in
          with_each p (truth (bounds_of p) s t) s n _
          (λ b. either_way p b n _ _
          (action i active are inner (inner_acts p program i t inner at) (record { on = λ none. whole.on refl; to = whole.to }) s n)
          (on (Statement.LogicalIf t inner) at refl))
      by (Statement.BlockIf t) at =
          with_each p (truth (bounds_of p) s t) s n _ (λ b. either_way p b n _ _ (on (Statement.BlockIf t) at refl) (skips i active are t (inl at) s n))
      by (Statement.ElseIf t) at =
          with_each p (truth (bounds_of p) s t) s n _ (λ b. either_way p b n _ _ (on (Statement.ElseIf t) at refl) (skips i active are t (inr at) s n))
      by Statement.Else at = on Statement.Else at refl
      by Statement.EndIf at = on Statement.EndIf at refl
      by (Statement.Loop label name a b c) at =
          with_each p (number (bounds_of p) s a) s n _
          (λ first. with_each p (number (bounds_of p) s b) s n _
          (λ last. with_each p (step_number (bounds_of p) s c) s n _
          (λ step. begins i (Statement.Loop label name a b c) active at refl are name first last step s n)))
      by Statement.End at = λ ends. subst (Keeps p) (sym ends) tt
      by (Statement.Subroutine name names) at = λ h. absurd h
      by (Statement.Declare kind ds) at = λ h. absurd h
      by (Statement.Dimension ds) at = λ h. absurd h
      by (Statement.Preset gs) at = λ h. absurd h
      by (Statement.Assign name items t) at = acted (Statement.Assign name items t) at refl
      by (Statement.Goto label) at = acted (Statement.Goto label) at refl
      by (Statement.ComputedGoto labels t) at = acted (Statement.ComputedGoto labels t) at refl
      by (Statement.ArithIf t l m r) at = acted (Statement.ArithIf t l m r) at refl
      by Statement.Continue at = acted Statement.Continue at refl
      by Statement.Return at = acted Statement.Return at refl
      by Statement.Stop at = acted Statement.Stop at refl
      by Statement.Trap at = acted Statement.Trap at refl

  increments : (d : ℕ) (active : Turns) → ((e : ℕ) → is_some (active e) ≡ (d == e || range_holds p e d)) → (stmt : Statement) → nth_statement p d ≡ Some stmt
      → (turn : Turn) (s : Store) (n : Next) → Increments p d stmt turn s active n → Keeps p n
  increments d active are (Statement.Loop label name a b c) at turn s n =
      with_each p (number (bounds_of p) s (Tree.Reference name Trees.None)) s n _
      (λ z. with_each p (in_range (z +ℤ turn.step)) s n _
      (λ next. passes d (Statement.Loop label name a b c) active at refl (λ e apart. are e ∙ ap (λ b. b || range_holds p e d) apart)
      (turn.passes - 1) turn.step (store_with s name 0 (held.Number next)) n))
  increments d active are _ at turn s n = λ h. absurd h

  steps : (at : Place) (s : Store) (active : Turns) (n : Next) → AreActive p (config at s active) → StepAt p at s active n → Keeps p n
  steps (Execute i) s active n are = by (nth_statement p i) refl
    where
      by : (o : Option Statement) → nth_statement p i ≡ o → MatchOption o ⊥ (λ stmt. Executes p i stmt s active n) → Keeps p n
      by None at h = absurd h
      by (Some stmt) at h = executes i active are stmt at s n h
  steps (Increment d) s active n are = by (nth_statement p d) refl (active d)
    where
      by : (o : Option Statement) → nth_statement p d ≡ o → (turn : Option Turn)
          → MatchOption o ⊥ (λ stmt. MatchOption turn ⊥ (λ turn. Increments p d stmt turn s active n)) → Keeps p n
      by None at turn h = absurd h
      by (Some stmt) at None h = absurd h
      by (Some stmt) at (Some turn) h = increments d active are stmt at turn s n h

  -- no DO stands before the first statement that is executed
  none_at_start : (given : List (List Value)) (c : Config) → IsStart p given c → AreActive p c
  none_at_start given c start = subst (AreActive p) (sym start.2) (λ d. sym (false_from_ne_true (range_holds p d start.0) (before d)))
    where
      before : (d : ℕ) → range_holds p d start.0 ≡ true → ⊥
      before d h =
          let is = is_in_range p d start.0 h in
          option_and_then_some (label_place p) (option_and_then terminal_label (nth_statement p d)) is.last is.ends
          (λ label named found. option_and_then_some terminal_label (nth_statement p d) label named
          (λ loop at names. by loop label names is.before (slice_get p d) refl at))
        where
          by : (loop : Statement) (label : ℕ) → terminal_label loop ≡ Some label → d < start.0 → (o : Option LineFields) → slice_get p d ≡ o
              → option_map (λ line. line.stmt) o ≡ Some loop → ⊥
          by loop label names less None found at = absurd (cc (at))
          by loop label names less (Some line) found at =
              let same : line.stmt ≡ loop = cc (at) in
              let here = get_or_from_slice_get p d line line found in
              let none = (position-Some (λ other. is_executable_statement other.stmt) p start.0 line start.1).2 d less in
              let whole : is_executable_statement line.stmt ≡ false = ap (λ other. is_executable_statement other.stmt) (sym here) ∙ none in
              absurd (cc (ap is_executable_statement same, whole, loop_executable loop label names))

  pub active_in : (given : List (List Value)) (c : Config) → Comes p given c → AreActive p c
  active_in given c (Comes.at_start start) = none_at_start given c start
  active_in given c (Comes.by_step {b = b} before step) = steps b.place b.values b.active (Goes c) (active_in given b before) step

pub active_by_place : ActiveByPlace
active_by_place p given c program legal comes = active_in p program legal given c comes
