-- Each active DO of a run has a pass left, and its statement is a DO.
use Rattle.f77_meaning.proofs.Common.{List, ℕ, ◌≡◌, refl, Some, true, ap, arith, ◌∙◌, None, false, sym, Bool, Option, suc, zero, ◌<◌, inr, inl, subst, ℤ}
use Rattle.f77_meaning.proofs.Common.{if◌then◌else◌, pos, Err, Ok, Result, negsuc, ◌==◌, ◌-◌, IsSome, is_some, ◌+ℤ◌, MatchOption, same_Some, option_and_then}
use Rattle.f77_meaning.proofs.Common.{in_range, trip_count, Loop, Action, Fault, Resolved, Value, IsAction, AreResolved, item_chosen, by_sign, is_loop}
use Rattle.f77_meaning.proofs.Common.{nth_statement, terminal_label, IsLegal, is_left, Symbol, bounds_of, kind_of, Store, store_with, place, number, truth}
use Rattle.f77_meaning.proofs.Common.{value, Comes, Config, Execute, Next, Goes, GoesOn, Turns, with_turn, Begins, Increment, Increments, Passes, Place, Turn}
use Rattle.f77_meaning.proofs.Common.{With, step_number, Either, Executes, Jumps, StepAt, Ends, Skips, left_behind, LineFields, IsProgram, Statement, Tree}
use Rattle.f77_meaning.proofs.Common.{Trees}
use Rattle.f77_code.specs.Holds.{is_loop_at}
use Rattle.f77_code.proofs.Listed.{loop_is}
use Rattle.f77_actions.specs.declared.value.Value.TheVariants as held
use Rattle.f77_meaning.proofs.Looping.{row_at}
use Rattle.f77_meaning.proofs.NeverLost.{placed}
use Rattle.f77_meaning.proofs.Soundness.{legal_is_sound}
use Rattle.f77_meaning.proofs.Stepping.{within}

-- each active DO has a pass left
abbrev HavePasses : Turns → Type 0
HavePasses active = (d : ℕ) (turn : Turn) → active d ≡ Some turn → 0 < turn.passes

-- where one DO changes, and has a pass left where it is active then, the others keep theirs
with_passes : (active : Turns) (d : ℕ) (o : Option Turn) → ((turn : Turn) → o ≡ Some turn → 0 < turn.passes) → HavePasses active
    → HavePasses (with_turn active d o)
with_passes active d o own all e turn is = by (d == e) refl
  where
    by : (b : Bool) → (d == e) ≡ b → 0 < turn.passes
    by true h = let same : with_turn active d o e ≡ o = ap (λ c. if c then o else active e) h in own turn (sym same ∙ is)
    by false h = let same : with_turn active d o e ≡ active e = ap (λ c. if c then o else active e) h in all e turn (sym same ∙ is)

-- the DOs that a jump does not leave keep theirs
left_passes : (p : List LineFields) (i j : ℕ) (active : Turns) → HavePasses active → HavePasses (left_behind p i j active)
left_passes p i j active all d turn is = by (is_left p i j d) refl
  where
    by : (b : Bool) → is_left p i j d ≡ b → 0 < turn.passes
    by true e = let none : left_behind p i j active d ≡ None = ap (λ c. if c then None else active d) e in absurd (cc (none, is))
    by false e = let same : left_behind p i j active d ≡ active d = ap (λ c. if c then None else active d) e in all d turn (sym same ∙ is)

-- what a step leads to: active DOs that each have a pass left, or an end
abbrev Leaves : Next → Type 0
Leaves (Goes b) = HavePasses b.active
Leaves (Ends o s) = Unit {0}

-- a fault ends the run
leaves_with : {A : Type 0} (r : Result A Fault) (s : Store) (n : Next) (P : A → Type 0) → ((x : A) → P x → Leaves n) → With r s n P → Leaves n
leaves_with (Ok x) s n P each f = each x f
leaves_with (Err e) s n P each f = subst Leaves (sym f) tt

-- both ways of a test lead on
leaves_either : (b : Bool) (n : Next) (P Q : Type 0) → (P → Leaves n) → (Q → Leaves n) → Either b P Q → Leaves n
leaves_either true n P Q first second f = first f
leaves_either false n P Q first second f = second f

-- what is there leads on
leaves_option : {A : Type 0} (o : Option A) (n : Next) (P : A → Type 0) → ((x : A) → P x → Leaves n) → MatchOption o ⊥ P → Leaves n
leaves_option None n P each f = absurd f
leaves_option (Some x) n P each f = each x f

module _ (p : List LineFields) where
  -- control goes on, jumps or skips a branch, and no DO gets passes
  leaves_on : (t : ℕ) (s : Store) (active : Turns) (n : Next) → HavePasses active → GoesOn p t s active n → Leaves n
  leaves_on t s active n all (inl f) = subst Leaves (sym f.2) all
  leaves_on t s active n all (inr f) = subst Leaves (sym f.3) all

  leaves_jump : (i label : ℕ) (s : Store) (active : Turns) (n : Next) → HavePasses active → Jumps p i label s active n → Leaves n
  leaves_jump i label s active n all f = subst Leaves (sym f.2) (left_passes p i f.0 active all)

  leaves_skip : (i : ℕ) (s : Store) (active : Turns) (n : Next) → HavePasses active → Skips p i s active n → Leaves n
  leaves_skip i s active n all f = subst Leaves (sym f.2) all

  -- a DO that has no pass to make is active no more
  leaves_passes : (d k : ℕ) (step : ℤ) (s : Store) (active : Turns) (n : Next) → HavePasses active → Passes p d k step s active n → Leaves n
  leaves_passes d zero step s active n all f =
      leaves_on f.0 s (with_turn active d None) n (with_passes active d None (λ turn is. absurd (cc (is))) all) f.2
  leaves_passes d (suc k) step s active n all f =
      let made : Turn = record { passes = suc k; step = step } in
      let some : 0 < suc k = omega arith in
      subst Leaves (sym f) (with_passes active d (Some made) (λ turn is. subst (λ (t : Turn). 0 < t.passes) (same_Some made turn is) some) all)

  -- a DO begins
  leaves_begins : (d : ℕ) (name : Symbol) (first last step : ℤ) (s : Store) (active : Turns) (n : Next) → HavePasses active
      → Begins p d name first last step s active n → Leaves n
  leaves_begins d name first last (pos zero) s active n all f = subst Leaves (sym f) tt
  leaves_begins d name first last (pos (suc k)) s active n all f =
      leaves_passes d (trip_count first last (pos (suc k))) (pos (suc k)) (store_with s name 0 (held.Number first)) active n all f
  leaves_begins d name first last (negsuc k) s active n all f =
      leaves_passes d (trip_count first last (negsuc k)) (negsuc k) (store_with s name 0 (held.Number first)) active n all f

  -- a computed GO TO jumps, or control goes on
  leaves_jump_or_on : (i : ℕ) (s : Store) (active : Turns) (n : Next) (o : Option ℕ) → HavePasses active
      → MatchOption o (GoesOn p i s active n) (λ label. Jumps p i label s active n) → Leaves n
  leaves_jump_or_on i s active n None all f = leaves_on i s active n all f
  leaves_jump_or_on i s active n (Some label) all f = leaves_jump i label s active n all f

  -- a statement is executed
  leaves_executes : (i : ℕ) (stmt : Statement) (s : Store) (active : Turns) (n : Next) → HavePasses active → Executes p i stmt s active n → Leaves n
  leaves_executes i (Statement.Assign name items t) s active n all f =
      leaves_with (place (bounds_of p) s name items) s n _
      (λ k. leaves_with (value (kind_of p name) (bounds_of p) s t) s n _ (λ v. leaves_on i (store_with s name k v) active n all)) f
  leaves_executes i (Statement.Goto label) s active n all f = leaves_jump i label s active n all f
  leaves_executes i (Statement.ComputedGoto labels t) s active n all f =
      leaves_with (number (bounds_of p) s t) s n _ (λ z. leaves_jump_or_on i s active n (item_chosen labels z) all) f
  leaves_executes i (Statement.ArithIf t l m r) s active n all f =
      leaves_with (number (bounds_of p) s t) s n _ (λ z. leaves_jump i (by_sign z l m r) s active n all) f
  leaves_executes i (Statement.LogicalIf t inner) s active n all f =
      leaves_with (truth (bounds_of p) s t) s n _
      (λ b. leaves_either b n _ _ (leaves_executes i inner s active n all) (leaves_on i s active n all)) f
  leaves_executes i (Statement.BlockIf t) s active n all f =
      leaves_with (truth (bounds_of p) s t) s n _ (λ b. leaves_either b n _ _ (leaves_on i s active n all) (leaves_skip i s active n all)) f
  leaves_executes i (Statement.ElseIf t) s active n all f =
      leaves_with (truth (bounds_of p) s t) s n _ (λ b. leaves_either b n _ _ (leaves_on i s active n all) (leaves_skip i s active n all)) f
  leaves_executes i Statement.Else s active n all f = leaves_on i s active n all f
  leaves_executes i Statement.EndIf s active n all f = leaves_on i s active n all f
  leaves_executes i (Statement.Loop label name x y z) s active n all f =
      leaves_with (number (bounds_of p) s x) s n _
      (λ first. leaves_with (number (bounds_of p) s y) s n _
      (λ last. leaves_with (step_number (bounds_of p) s z) s n _
      (λ step. leaves_begins i name first last step s active n all))) f
  leaves_executes i Statement.Continue s active n all f = leaves_on i s active n all f
  leaves_executes i Statement.Return s active n all f = subst Leaves (sym f) tt
  leaves_executes i Statement.Stop s active n all f = subst Leaves (sym f) tt
  leaves_executes i Statement.Trap s active n all f = subst Leaves (sym f) tt
  leaves_executes i Statement.End s active n all f = subst Leaves (sym f) tt
  leaves_executes i _ s active n all f = absurd f

  -- a DO is incremented
  leaves_increments : (d : ℕ) (stmt : Statement) (turn : Turn) (s : Store) (active : Turns) (n : Next) → HavePasses active
      → Increments p d stmt turn s active n → Leaves n
  leaves_increments d (Statement.Loop label name x y z) turn s active n all f =
      leaves_with (number (bounds_of p) s (Tree.Reference name Trees.None)) s n _
      (λ before. leaves_with (in_range (before +ℤ turn.step)) s n _
      (λ next. leaves_passes d (turn.passes - 1) turn.step (store_with s name 0 (held.Number next)) active n all)) f
  leaves_increments d _ turn s active n all f = absurd f

  -- a step leads from active DOs that each have a pass left to such ones
  leaves_step : (at : Place) (s : Store) (active : Turns) (n : Next) → HavePasses active → StepAt p at s active n → Leaves n
  leaves_step (Execute i) s active n all f = leaves_option (nth_statement p i) n _ (λ stmt. leaves_executes i stmt s active n all) f
  leaves_step (Increment d) s active n all f =
      leaves_option (nth_statement p d) n _
      (λ stmt. leaves_option (active d) n _ (λ turn. leaves_increments d stmt turn s active n all)) f

-- each active DO of a run has a pass left
pub passes_left : (p : List LineFields) (given : List (List Value)) (c : Config) → Comes p given c → (d : ℕ) (turn : Turn) → c.active d ≡ Some turn
    → 0 < turn.passes
passes_left p given c (Comes.at_start start) = λ d turn is.
    let none : c.active d ≡ None = ap (λ (b : Config). b.active d) start.2 in
    absurd (cc (none, is))
passes_left p given c (Comes.by_step {b = b} before step) = leaves_step p b.place b.values b.active (Goes c) (passes_left p given b before) step

-- the statement of an active DO of a legal program is a DO
pub active_loop : (p : List LineFields) (given : List (List Value)) (c : Config) → IsProgram None p → IsLegal p → Comes p given c
    → (d : ℕ) (turn : Turn) → c.active d ≡ Some turn → IsSome (option_and_then terminal_label (nth_statement p d))
active_loop p given c program legal comes d turn is =
    let found = placed p given c (legal_is_sound p program legal) comes in
    found.loops d (ap is_some is)

-- a DO, resolved, is one
loop_resolved : (p : List LineFields) (names : List Symbol) (d : ℕ) (stmt : Statement) (action : Action)
    → IsAction (kind_of p) (bounds_of p) names p d stmt action → IsSome (terminal_label stmt) → is_loop action ≡ true
loop_resolved p names d (Statement.Loop label name a b c) (Loop variable first last step t) h some = refl
loop_resolved p names d (Statement.Loop label name a b c) _ h some = absurd h
loop_resolved p names d _ _ h some = absurd (cc (some))

-- the resolved statement of an active DO is a DO
pub active_is_loop : (p : List LineFields) (names : List Symbol) (given : List (List Value)) (statements : List Resolved) (c : Config)
    → IsProgram None p → IsLegal p → AreResolved p names statements → Comes p given c → (d : ℕ) (turn : Turn) → c.active d ≡ Some turn
    → is_loop_at statements d ≡ true
active_is_loop p names given statements c program legal resolved comes d turn is =
    let sound = legal_is_sound p program legal in
    let loop = active_loop p given c program legal comes d turn is in
    let end = sound.ends d loop in
    let row = row_at p names statements resolved d (within p d end.0 end.1) in
    loop_is statements d row.resolved row.found
    ∙ loop_resolved p names d row.statement row.resolved.action row.is.action (subst (λ o. IsSome (option_and_then terminal_label o)) row.there loop)
