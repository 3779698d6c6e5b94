-- The passes of a DO: what the machine does at its beginning and at its end is what a run does.
use Rattle.f77_meaning.proofs.Common.{List, ℕ, ◌≡◌, refl, Some, ap, arith, ◌∙◌, None, [], sym, ◌∷◌, Option, suc, length, zero, ◌<◌, ◌+◌, subst, ℤ, slice_get}
use Rattle.f77_meaning.proofs.Common.{pos, Err, Ok, Result, negsuc, ◌-◌, ◌+ℤ◌, slice_set, option_and_then_some, option_map_or, option_and_then, in_range}
use Rattle.f77_meaning.proofs.Common.{trip_count, given, Loop, Variable, Number, Fault, Resolved, Value, AreResolved, IsResolved, slot_count, first_slot, Cells}
use Rattle.f77_meaning.proofs.Common.{TurnList, Move, state, incremented, used, begun, passing, passing_at, product, nth_statement, label_place, terminal_label}
use Rattle.f77_meaning.proofs.Common.{bears, terminal, Symbol, bounds_of, values_of, store_with, config, Next, GoesOn, with_turn, Begins, Increments, Passes}
use Rattle.f77_meaning.proofs.Common.{With, LineFields, Statement, Tree, Trees}
use Rattle.f77_code.specs.declared.control.Place.TheVariants.{Execute}
use Rattle.f77_code.specs.declared.control.Turn.{Turn}
use Rattle.f77_actions.specs.declared.expression.Number as number
use Rattle.f77_actions.specs.declared.value.Value.TheVariants as held
use Rattle.f77_code.specs.Moves as moves
use Rattle.f77_meaning.specs.Step as run
use Rattle.f77_meaning.proofs.StateDefinitions.{turn_of, turns_of, next_of}
use Rattle.f77_meaning.proofs.SameValue.{same_number}
use Rattle.f77_meaning.proofs.Stored.{stored}
use Rattle.f77_meaning.proofs.Soundness.{place_within, there}
use Rattle.f77_meaning.proofs.Stepping.{within}
use Rattle.f77_meaning.proofs.Turning.{turns_set, goes_on}

-- a resolved statement and what it comes from
pub record Row (p : List LineFields) (names : List Symbol) (statements : List Resolved) (i : ℕ) : Type 0 where
  pub statement : Statement
  pub resolved : Resolved
  pub there : nth_statement p i ≡ Some statement
  pub found : slice_get statements i ≡ Some resolved
  pub is : IsResolved p names i statement resolved

resolved_there : (xs : List Resolved) (i : ℕ) → i < length xs → (r : Resolved) × (slice_get xs i ≡ Some r)
resolved_there [] i h = absurd (omega (arith, h))
resolved_there (r ∷ rs) zero h = (r, refl)
resolved_there (r ∷ rs) (suc i) h = resolved_there rs i (omega (arith, h))

pub row_at : (p : List LineFields) (names : List Symbol) (statements : List Resolved) → AreResolved p names statements → (i : ℕ) → i < length p → Row p names statements i
row_at p names statements resolved i below =
    let s = there p i below in
    let count = resolved.count in
    let r = resolved_there statements i (omega (arith, below, count)) in
    record { statement = s.0; resolved = r.0; there = s.1; found = r.1; is = resolved.each i s.0 r.0 s.1 r.1 }

-- the terminal statement of a DO stands in the program
pub terminal_within : (p : List LineFields) (d t : ℕ) → terminal p d ≡ Some t → t < length p
terminal_within p d t ends =
    option_and_then_some (label_place p) (option_and_then terminal_label (nth_statement p d)) t ends (λ label named at. place_within (bears label) p t at)

module _ (bounds : Symbol → List ℕ) (names : List Symbol) (cells : Cells) where
  with_same : {A : Type 0} (r : Result A Fault) (f : A → Move) (n : Next) (P : A → Type 0)
      → ((v : A) → n ≡ next_of bounds names (f v) → P v) → n ≡ next_of bounds names (used r cells f) → With r (values_of bounds names cells) n P
  with_same (Ok v) f n P each is = each v is
  with_same (Err e) f n P each is = is

  -- a run uses the result that the machine uses
  pub with_used : {A : Type 0} (q r : Result A Fault) → r ≡ q → (f : A → Move) (n : Next) (P : A → Type 0)
      → ((v : A) → n ≡ next_of bounds names (f v) → P v) → n ≡ next_of bounds names (used r cells f) → With q (values_of bounds names cells) n P
  with_used q r same f n P each is = subst (λ x. With x (values_of bounds names cells) n P) same (with_same r f n P each is)

  with_place : (q : Result ℕ Fault) (first : ℕ) (f : ℕ → Move) (n : Next) (P : ℕ → Type 0)
      → ((k : ℕ) → q ≡ Ok k → n ≡ next_of bounds names (f (first + k)) → P k)
      → n ≡ next_of bounds names (used (given q (λ k. Ok (first + k))) cells f) → With q (values_of bounds names cells) n P
  with_place (Ok k) first f n P each is = each k refl is
  with_place (Err e) first f n P each is = is

  -- a run uses a place where the machine uses a slot
  pub with_slot : (q r : Result ℕ Fault) (first : ℕ) → r ≡ given q (λ k. Ok (first + k)) → (f : ℕ → Move) (n : Next) (P : ℕ → Type 0)
      → ((k : ℕ) → q ≡ Ok k → n ≡ next_of bounds names (f (first + k)) → P k) → n ≡ next_of bounds names (used r cells f) → With q (values_of bounds names cells) n P
  with_slot q r first same f n P each is = with_place q first f n P each (is ∙ ap (λ x. next_of bounds names (used x cells f)) same)

  -- the slot of a variable is set
  pub variable_stored : (name : Symbol) (variable : ℕ) (v : Value) → length cells ≡ slot_count bounds names → first_slot bounds names name ≡ Some variable → bounds name ≡ []
      → values_of bounds names (slice_set cells variable (Some v)) ≡ store_with (values_of bounds names cells) name 0 v
  variable_stored name variable v long at flat =
      let one : product (bounds name) ≡ 1 = ap product flat in
      let first : variable + 0 ≡ variable = omega arith in
      subst (λ k. values_of bounds names (slice_set cells k (Some v)) ≡ store_with (values_of bounds names cells) name 0 v) first
      (stored bounds names cells name variable 0 v long at (omega (arith, one)))

module _ (p : List LineFields) (names : List Symbol) (turns : TurnList) (long : length turns ≡ length p) where
  passes : (s : Statement) (r : Resolved) (t d k : ℕ) (step : ℤ) (cells : Cells) → IsResolved p names t s r → terminal p d ≡ Some t
      → Passes p d k step (values_of (bounds_of p) names cells) (turns_of turns) (next_of (bounds_of p) names (passing r d k step cells turns))
  passes s r t d zero step cells is ends =
      let below = within p d t ends in
      let store = values_of (bounds_of p) names cells in
      let left : turns_of (slice_set turns d None) ≡ with_turn (turns_of turns) d None = turns_set turns d None (omega (arith, below, long)) in
      (t, ends, subst (λ active. GoesOn p t store active (next_of (bounds_of p) names (passing r d zero step cells turns))) left (goes_on p names t s r is store (slice_set turns d None)))
  passes s r t d (suc k) step cells is ends =
      let below = within p d t ends in
      let turn : Turn = record { passes = suc k; step = step } in
      ap (λ active. run.Goes (config (run.Execute (d + 1)) (values_of (bounds_of p) names cells) active)) (turns_set turns d (Some turn) (omega (arith, below, long)))

  module _ (statements : List Resolved) (resolved : AreResolved p names statements) where
    -- the passes that the machine makes are those of a run
    pub passes_at : (t d k : ℕ) (step : ℤ) (cells : Cells) → terminal p d ≡ Some t
        → Passes p d k step (values_of (bounds_of p) names cells) (turns_of turns) (next_of (bounds_of p) names (passing_at statements t d k step cells turns))
    passes_at t d k step cells ends =
        let row = row_at p names statements resolved t (terminal_within p d t ends) in
        subst
        (λ o. Passes p d k step (values_of (bounds_of p) names cells) (turns_of turns)
        (next_of (bounds_of p) names (option_map_or (λ end. passing end d k step cells turns) o (moves.Goes (state (Execute t) cells turns)))))
        (sym row.found) (passes row.statement row.resolved t d k step cells row.is ends)

    module _ (cells : Cells) (sized : length cells ≡ slot_count (bounds_of p) names)
        (name : Symbol) (variable t d : ℕ) (at : first_slot (bounds_of p) names name ≡ Some variable) (flat : bounds_of p name ≡ []) (ends : terminal p d ≡ Some t) where
      passes_with : (k : ℕ) (step z : ℤ)
          → Passes p d k step (store_with (values_of (bounds_of p) names cells) name 0 (held.Number z)) (turns_of turns)
          (next_of (bounds_of p) names (passing_at statements t d k step (slice_set cells variable (Some (held.Number z))) turns))
      passes_with k step z =
          subst
          (λ store. Passes p d k step store (turns_of turns) (next_of (bounds_of p) names (passing_at statements t d k step (slice_set cells variable (Some (held.Number z))) turns)))
          (variable_stored (bounds_of p) names cells name variable (held.Number z) sized at flat)
          (passes_at t d k step (slice_set cells variable (Some (held.Number z))) ends)

      -- a DO begins as that of a run does
      pub begins : (first last step : ℤ)
          → Begins p d name first last step (values_of (bounds_of p) names cells) (turns_of turns)
          (next_of (bounds_of p) names (begun statements d variable t first last step cells turns))
      begins first last (pos zero) = refl
      begins first last (pos (suc m)) = passes_with (trip_count first last (pos (suc m))) (pos (suc m)) first
      begins first last (negsuc m) = passes_with (trip_count first last (negsuc m)) (negsuc m) first

      -- a DO is incremented as that of a run is
      pub increments : (label : ℕ) (a b : Tree) (c : Option Tree) (x y z : Number) (turn : Turn) (n : Next)
          → n ≡ next_of (bounds_of p) names (incremented statements d (Loop variable x y z t) turn cells turns)
          → Increments p d (Statement.Loop label name a b c) (turn_of turn) (values_of (bounds_of p) names cells) (turns_of turns) n
      increments label a b c x y z turn n is =
          with_used (bounds_of p) names cells _ _ (same_number (bounds_of p) names cells (Tree.Reference name Trees.None) (number.Element (Variable variable)) (flat, at)) _ n _
          (λ v. with_used (bounds_of p) names cells (in_range (v +ℤ turn.step)) _ refl _ n _
          (λ next e. subst (Passes p d (turn.passes - 1) turn.step (store_with (values_of (bounds_of p) names cells) name 0 (held.Number next)) (turns_of turns)) (sym e)
          (passes_with (turn.passes - 1) turn.step next))) is
