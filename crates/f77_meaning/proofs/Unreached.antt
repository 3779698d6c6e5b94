-- A statement that control does not come to may be another one of the same frame.
use Rattle.f77_meaning.proofs.Common.{List, ℕ, ◌≡◌, refl, Some, true, ap, arith, ◌∙◌, None, false, [], sym, Bool, Option, suc, zero, inr, inl, subst}
use Rattle.f77_meaning.proofs.Common.{option_map, ℤ, slice_get, if◌then◌else◌, pos, Err, Ok, Result, negsuc, map, ◌&&◌, ◌-◌, not, ◌+ℤ◌, MatchOption, position}
use Rattle.f77_meaning.proofs.Common.{◌≢◌, option_map_or, bytes_eq, in_range, trip_count, Fault, Finish, Value, item_chosen, by_sign, first_numbers}
use Rattle.f77_meaning.proofs.Common.{nth_statement, Symbol, bounds_of, kind_of, Store, store_with, place, number, truth, value, IsOutcome, IsStart, AreFitting}
use Rattle.f77_meaning.proofs.Common.{start_values, values_in, AreArguments, Reports, constant_value, AreSameBut, IsReached, MayBeAnother, statement_number}
use Rattle.f77_meaning.proofs.Common.{Config, config, Execute, Next, Goes, GoesOn, Turns, with_turn, Begins, Increment, Increments, Passes, Place, Turn, With}
use Rattle.f77_meaning.proofs.Common.{step_number, Either, Executes, Jumps, StepAt, Ends, Skips, Step, left_behind, IsInnermost, Arg, LineFields, Statement}
use Rattle.f77_meaning.proofs.Common.{Tree, Trees}
use Rattle.f77_legal.specs.Frames.{HaveOneFrame}
use Rattle.f77_legal.proofs.FrameNames.{kind_of_same, bounds_of_same, elements_same, dummies_same}
use Rattle.f77_legal.proofs.SameFrame.{place_of_same, range_holds_same, branch_end_same, terminal_same, behind_same}
use Rattle.f77_check.proofs.Carried.{entry_same, initial_at_same, shapes_same}
use Rattle.f77_actions.specs.declared.finish.Finish.TheVariants as finish
use Rattle.f77_actions.specs.declared.value.Value.TheVariants as held
use Rattle.f77_meaning.specs.declared.outcome.Outcome.{Outcome}
use Rattle.f77_meaning.specs.declared.outcome.Outcome.TheVariants as outcome

with_same : {A : Type 0} (r q : Result A Fault) (s : Store) (n : Next) (P Q : A → Type 0) → r ≡ q → ((x : A) → P x → Q x) → With r s n P → With q s n Q
with_same r q s n P Q same each h = subst (λ t. With t s n Q) same (kept r h)
  where
    kept : (r : Result _ Fault) → With r s n P → With r s n Q
    kept (Ok x) h = each x h
    kept (Err f) h = h

either_same : (b : Bool) (P P' Q Q' : Type 0) → (P → P') → (Q → Q') → Either b P Q → Either b P' Q'
either_same true P P' Q Q' f g h = f h
either_same false P P' Q Q' f g h = g h

option_same : {A : Type 0} (o : Option A) (P Q : A → Type 0) → ((x : A) → P x → Q x) → MatchOption o ⊥ P → MatchOption o ⊥ Q
option_same None P Q each h = h
option_same (Some x) P Q each h = each x h

-- programs of one frame go the same way from statements that are the same
module _ (p q : List LineFields) (same : HaveOneFrame p q) where
  bounds : bounds_of p ≡ bounds_of q
  bounds = λ k name. bounds_of_same p q same name k

  innermost_same : (active : Turns) (t d : ℕ) → IsInnermost p active t d → IsInnermost q active t d
  innermost_same active t d is = record {
    ends = sym (terminal_same p q same d) ∙ is.ends;
    turns = is.turns;
    inner = λ e below ends. is.inner e below (terminal_same p q same e ∙ ends);
  }

  goes_on_same : (t : ℕ) (s : Store) (active : Turns) (n : Next) → GoesOn p t s active n → GoesOn q t s active n
  goes_on_same t s active n (inl f) = inl (f.0, innermost_same active t f.0 f.1, f.2)
  goes_on_same t s active n (inr f) =
      inr ((λ d ends. f.0 d (terminal_same p q same d ∙ ends)), f.1, sym (behind_same p q same t) ∙ f.2, f.3)

  left_same : (i j : ℕ) (active : Turns) → left_behind p i j active ≡ left_behind q i j active
  left_same i j active = λ k d. if range_holds_same p q same d i k && not (range_holds_same p q same d j k) then None else active d

  jumps_same : (i label : ℕ) (s : Store) (active : Turns) (n : Next) → Jumps p i label s active n → Jumps q i label s active n
  jumps_same i label s active n f =
      (f.0, sym (place_of_same p q same label) ∙ f.1, f.2 ∙ ap (λ left. Goes (config (Execute f.0) s left)) (left_same i f.0 active))

  passes_same : (d k : ℕ) (z : ℤ) (s : Store) (active : Turns) (n : Next) → Passes p d k z s active n → Passes q d k z s active n
  passes_same d zero z s active n f = (f.0, sym (terminal_same p q same d) ∙ f.1, goes_on_same f.0 s (with_turn active d None) n f.2)
  passes_same d (suc k) z s active n f = f

  begins_same : (d : ℕ) (x : Symbol) (first last step : ℤ) (s : Store) (active : Turns) (n : Next)
      → Begins p d x first last step s active n → Begins q d x first last step s active n
  begins_same d x first last (pos zero) s active n f = f
  begins_same d x first last (pos (suc k)) s active n f =
      passes_same d (trip_count first last (pos (suc k))) (pos (suc k)) (store_with s x 0 (held.Number first)) active n f
  begins_same d x first last (negsuc k) s active n f =
      passes_same d (trip_count first last (negsuc k)) (negsuc k) (store_with s x 0 (held.Number first)) active n f

  skips_same : (i : ℕ) (s : Store) (active : Turns) (n : Next) → Skips p i s active n → Skips q i s active n
  skips_same i s active n f = (f.0, sym (branch_end_same p q same i) ∙ f.1, f.2)

  jump_or_on_same : (i : ℕ) (s : Store) (active : Turns) (n : Next) (o : Option ℕ)
      → MatchOption o (GoesOn p i s active n) (λ label. Jumps p i label s active n)
      → MatchOption o (GoesOn q i s active n) (λ label. Jumps q i label s active n)
  jump_or_on_same i s active n None f = goes_on_same i s active n f
  jump_or_on_same i s active n (Some label) f = jumps_same i label s active n f

  module _ (s : Store) (n : Next) where
    with_number : (t : Tree) (P Q : ℤ → Type 0) → ((z : ℤ) → P z → Q z) → With (number (bounds_of p) s t) s n P → With (number (bounds_of q) s t) s n Q
    with_number t P Q each f = with_same (number (bounds_of p) s t) (number (bounds_of q) s t) s n P Q (ap (λ b. number b s t) bounds) each f

    with_step : (c : Option Tree) (P Q : ℤ → Type 0) → ((z : ℤ) → P z → Q z) → With (step_number (bounds_of p) s c) s n P → With (step_number (bounds_of q) s c) s n Q
    with_step c P Q each f = with_same (step_number (bounds_of p) s c) (step_number (bounds_of q) s c) s n P Q (ap (λ b. step_number b s c) bounds) each f

    with_truth : (t : Tree) (P Q : Bool → Type 0) → ((b : Bool) → P b → Q b) → With (truth (bounds_of p) s t) s n P → With (truth (bounds_of q) s t) s n Q
    with_truth t P Q each f = with_same (truth (bounds_of p) s t) (truth (bounds_of q) s t) s n P Q (ap (λ b. truth b s t) bounds) each f

    with_place : (x : Symbol) (items : Trees) (P Q : ℕ → Type 0) → ((k : ℕ) → P k → Q k) → With (place (bounds_of p) s x items) s n P → With (place (bounds_of q) s x items) s n Q
    with_place x items P Q each f = with_same (place (bounds_of p) s x items) (place (bounds_of q) s x items) s n P Q (ap (λ b. place b s x items) bounds) each f

    with_value : (x : Symbol) (t : Tree) (P Q : Value → Type 0) → ((v : Value) → P v → Q v)
        → With (value (kind_of p x) (bounds_of p) s t) s n P → With (value (kind_of q x) (bounds_of q) s t) s n Q
    with_value x t P Q each f =
        with_same (value (kind_of p x) (bounds_of p) s t) (value (kind_of q x) (bounds_of q) s t) s n P Q
        (λ k. value (kind_of_same p q same x k) (bounds k) s t) each f

  executes_same : (i : ℕ) (stmt : Statement) (s : Store) (active : Turns) (n : Next) → Executes p i stmt s active n → Executes q i stmt s active n
  executes_same i (Statement.Assign name items t) s active n f =
      with_place s n name items _ _ (λ k. with_value s n name t _ _ (λ v. goes_on_same i (store_with s name k v) active n)) f
  executes_same i (Statement.Goto label) s active n f = jumps_same i label s active n f
  executes_same i (Statement.ComputedGoto labels t) s active n f = with_number s n t _ _ (λ z. jump_or_on_same i s active n (item_chosen labels z)) f
  executes_same i (Statement.ArithIf t l e r) s active n f = with_number s n t _ _ (λ z. jumps_same i (by_sign z l e r) s active n) f
  executes_same i (Statement.LogicalIf t inner) s active n f =
      with_truth s n t _ _ (λ b. either_same b _ _ _ _ (executes_same i inner s active n) (goes_on_same i s active n)) f
  executes_same i (Statement.BlockIf t) s active n f = with_truth s n t _ _ (λ b. either_same b _ _ _ _ (goes_on_same i s active n) (skips_same i s active n)) f
  executes_same i (Statement.ElseIf t) s active n f = with_truth s n t _ _ (λ b. either_same b _ _ _ _ (goes_on_same i s active n) (skips_same i s active n)) f
  executes_same i Statement.Else s active n f = goes_on_same i s active n f
  executes_same i Statement.EndIf s active n f = goes_on_same i s active n f
  executes_same i (Statement.Loop label name a b c) s active n f =
      with_number s n a _ _ (λ first. with_number s n b _ _ (λ last. with_step s n c _ _ (λ step. begins_same i name first last step s active n))) f
  executes_same i Statement.Continue s active n f = goes_on_same i s active n f
  executes_same i Statement.Return s active n f = f
  executes_same i Statement.Stop s active n f = f
  executes_same i Statement.Trap s active n f = f
  executes_same i Statement.End s active n f = f
  executes_same i _ s active n f = absurd f

  increments_same : (d : ℕ) (stmt : Statement) (turn : Turn) (s : Store) (active : Turns) (n : Next) → Increments p d stmt turn s active n → Increments q d stmt turn s active n
  increments_same d (Statement.Loop label name a b c) turn s active n f =
      with_number s n (Tree.Reference name Trees.None) _ _
      (λ z. with_same (in_range (z +ℤ turn.step)) (in_range (z +ℤ turn.step)) s n _ _ refl
      (λ next. passes_same d (turn.passes - 1) turn.step (store_with s name 0 (held.Number next)) active n)) f
  increments_same d _ turn s active n f = absurd f

  step_at_same : (at : Place) (s : Store) (active : Turns) (n : Next) → nth_statement q (statement_number at) ≡ nth_statement p (statement_number at)
      → StepAt p at s active n → StepAt q at s active n
  step_at_same (Execute i) s active n here f =
      subst (λ o. MatchOption o ⊥ (λ stmt. Executes q i stmt s active n)) (sym here)
      (option_same (nth_statement p i) _ _ (λ stmt. executes_same i stmt s active n) f)
  step_at_same (Increment d) s active n here f =
      subst (λ o. MatchOption o ⊥ (λ stmt. MatchOption (active d) ⊥ (λ turn. Increments q d stmt turn s active n))) (sym here)
      (option_same (nth_statement p d) _ _ (λ stmt. option_same (active d) _ _ (λ turn. increments_same d stmt turn s active n)) f)

  -- programs that differ in one statement go the same way, until control is there
  module _ (i : ℕ) (others : AreSameBut i p q) where
    pub step_same : (c : Config) (n : Next) → statement_number c.place ≢ i → Step p c n → Step q c n
    step_same c n apart f = step_at_same c.place c.values c.active n (others (statement_number c.place) apart) f

    run_same : (n : ℕ) (c : Config) (o : Finish) (s : Store) → ¬ (IsReached p i n c) → IsOutcome p n c o s → IsOutcome q n c o s
    run_same zero c o s never f = f
    run_same (suc n) c o s never (inl f) = inl (step_same c (Ends o s) (λ is. never (record { made = 0; within = omega arith; at = c; reaches = refl; is = is })) f)
    run_same (suc n) c o s never (inr f) =
        inr (
          f.0,
          step_same c (Goes f.0) (λ is. never (record { made = 0; within = omega arith; at = c; reaches = refl; is = is })) f.1,
          run_same n f.0 o s (λ is. never (further f.0 f.1 is)) f.2,
        )
      where
        further : (b : Config) → Step p c (Goes b) → IsReached p i n b → IsReached p i (suc n) c
        further b step is =
            let within = is.within in
            record { made = suc is.made; within = omega (arith, within); at = is.at; reaches = (b, step, is.reaches); is = is.is }

  start_values_same : (given : List (List Value)) → start_values p given ≡ start_values q given
  start_values_same given = λ k name.
      option_map_or (λ i. option_map_or (map (λ v. Some v)) (slice_get given i) []) (position (bytes_eq name) (dummies_same p q same k))
      (map (λ m. option_map constant_value (initial_at_same p q same name m k)) (first_numbers (elements_same p q same name k)))

  pub starts_same : (given : List (List Value)) (c : Config) → IsStart p given c → IsStart q given c
  starts_same given c is =
      (is.0, sym (entry_same p q same) ∙ is.1, is.2 ∙ ap (λ s. config (Execute is.0) s (λ d. None)) (start_values_same given))

  arguments_same : (s : Store) (arguments : List Arg) → AreArguments p s arguments → AreArguments q s arguments
  arguments_same s arguments are = record {
    fitting = subst (λ list. AreFitting list arguments) (shapes_same p q same) are.fitting;
    values = ap (map s) (sym (dummies_same p q same)) ∙ are.values;
  }

  pub reports_same : (end : Finish) (s : Store) (answer : Outcome) → Reports p end s answer → Reports q end s answer
  reports_same finish.Returned s (outcome.Returned arguments) f = arguments_same s arguments f
  reports_same finish.Stopped s (outcome.Stopped arguments) f = arguments_same s arguments f
  reports_same (finish.Failed fault) s answer f = f
  reports_same finish.StepLimit s answer f = f
  reports_same _ s _ f = absurd f

pub may_be_another : MayBeAnother
may_be_another p q i arguments steps answer same others never is = record {
  start = is.start;
  starts = starts_same p q same (map values_in arguments) is.start is.starts;
  finish = is.finish;
  values = is.values;
  ends = run_same p q same i others steps is.start is.finish is.values (λ reached. never (record { start = is.start; starts = is.starts; reached = reached })) is.ends;
  reports = reports_same p q same is.finish is.values answer is.reports;
}
