-- Moves of the machine over slots, one after another, are as many steps of a run of a legal program.
use Rattle.f77_meaning.proofs.Common.{List, ℕ, ◌≡◌, refl, Some, true, arith, ◌∙◌, None, false, [], ◌∷◌, Bool, Option, suc, length, zero, ◌<◌, ◌+◌, inr, inl}
use Rattle.f77_meaning.proofs.Common.{subst, option_map, ℤ, ◌≤◌, slice_get, if◌then◌else◌, pos, Err, Ok, Result, negsuc, ◌-◌, IsSome, ◌+ℤ◌, slice_set, ◌≢◌}
use Rattle.f77_meaning.proofs.Common.{length-set, slice_get_within, option_map_or, option_and_then, in_range, trip_count, whole, Loop, Action, ArithmeticIf}
use Rattle.f77_meaning.proofs.Common.{AssignNumber, AssignTruth, Branch, ComputedGoto, Continue, Declaration, Goto, LogicalIf', Return, Stop, Trap, Jump, Fault}
use Rattle.f77_meaning.proofs.Common.{ZeroStep, Trapped, Finish, StepLimit, Failed, Resolved, slot_count, item_chosen, by_sign, held_in, number_in, slot_in}
use Rattle.f77_meaning.proofs.Common.{truth_in, Cells, State, TurnList, turn_at, Move, state, incremented, is_loop, used, without, acted, begun, go_on}
use Rattle.f77_meaning.proofs.Common.{is_executed, jump_chosen, jump_to, moved, passing, passing_at, bounds_of, IsOutcome, Comes, Reaches, Config, Step}
use Rattle.f77_meaning.proofs.Common.{RunSite}
use Rattle.f77_code.specs.declared.control.Place.{Place}
use Rattle.f77_code.specs.declared.control.Place.TheVariants.{Execute, Increment}
use Rattle.f77_code.specs.declared.control.Turn.{Turn}
use Rattle.f77_code.specs.Instructions.{place_at}
use Rattle.f77_code.specs.Holds.{loop_count, do_rank}
use Rattle.f77_code.specs.Moves.{Goes, Ends}
use Rattle.f77_code.specs.Sequences.{then_moved, moved_by, AreStatesNested}
use Rattle.f77_code.specs.Simulation.{IsNested}
use Rattle.f77_code.proofs.Counters.{rank_below}
use Rattle.f77_code.proofs.Listed.{loop_is}
use Rattle.f77_actions.specs.declared.value.Value.TheVariants as held
use Rattle.f77_meaning.proofs.StateDefinitions.{next_of}
use Rattle.f77_meaning.proofs.InRun.{IsRunningIn, stands_for, values_at}
use Rattle.f77_meaning.proofs.NeverLost.{leads_on}
use Rattle.f77_meaning.proofs.Simulation.{simulates, moves_on}
use Rattle.f77_meaning.proofs.StandsNested.{stands_nested}

-- What moves from a configuration lead to: the run comes to the state behind as many steps, and goes on there, or it ends within them.
abbrev pub ComesIn : RunSite → List Resolved → ℕ → Config → Move → Type 0
ComesIn at statements n c (Goes t) = Reaches at.program n c (stands_for at t) × IsRunningIn at statements t
ComesIn at statements n c (Ends finish cells) =
    IsOutcome at.program n c finish (values_at at cells) × (length cells ≡ slot_count (bounds_of at.program) at.names)

-- a move keeps the number of slots and of counters; or it ends with that number of slots, and not at a limit on steps
abbrev IsSized : ℕ → ℕ → Move → Type 0
IsSized slots n (Goes t) = (length t.cells ≡ slots) × (length t.turns ≡ n)
IsSized slots n (Ends finish cells) = (finish ≢ StepLimit) × (length cells ≡ slots)

-- a jump out of DOs leaves the number of these places as it is
length-without : (ds : List ℕ) (turns : TurnList) → length (without turns ds) ≡ length turns
length-without [] turns = refl
length-without (d ∷ ds) turns = length-without ds (slice_set turns d None) ∙ length-set turns d None

module _ (slots n : ℕ) where
  -- a DO makes its next pass, or has none left
  passing_sized : (end : Resolved) (d passes : ℕ) (step : ℤ) (cells : Cells) (turns : TurnList) → length cells ≡ slots → length turns ≡ n
      → IsSized slots n (passing end d passes step cells turns)
  passing_sized end d zero step cells turns long many = (long, length-set turns d None ∙ many)
  passing_sized end d (suc k) step cells turns long many =
      let turn : Turn = record { passes = suc k; step = step } in
      (long, length-set turns d (Some turn) ∙ many)

  -- a DO makes its next pass or has none left, where it ends at the statement with this number
  passing_at_sized : (statements : List Resolved) (t d passes : ℕ) (step : ℤ) (cells : Cells) (turns : TurnList) → length cells ≡ slots → length turns ≡ n
      → IsSized slots n (passing_at statements t d passes step cells turns)
  passing_at_sized statements t d passes step cells turns long many = by (slice_get statements t)
    where
      by : (o : Option Resolved) → IsSized slots n (option_map_or (λ end. passing end d passes step cells turns) o (Goes (state (Execute t) cells turns)))
      by None = (long, many)
      by (Some end) = passing_sized end d passes step cells turns long many

  module _ (cells : Cells) (turns : TurnList) (long : length cells ≡ slots) (many : length turns ≡ n) where
    -- an end at a fault
    failed_sized : (fault : Fault) → IsSized slots n (Ends (Failed fault) cells)
    failed_sized fault = (λ same. absurd (cc (same)), long)

    -- a result that is used, or its fault
    used_sized : {A : Type 0} (r : Result A Fault) (f : A → Move) → ((x : A) → IsSized slots n (f x)) → IsSized slots n (used r cells f)
    used_sized (Ok x) f each = each x
    used_sized (Err fault) f each = failed_sized fault

    -- one of two moves
    chosen_sized : (b : Bool) (x y : Move) → IsSized slots n x → IsSized slots n y → IsSized slots n (jump_chosen b x y)
    chosen_sized true x y one other = one
    chosen_sized false x y one other = other

    -- a jump
    jump_sized : (jump : Jump) → IsSized slots n (jump_to jump cells turns)
    jump_sized jump = (long, length-without jump.leaves.items turns ∙ many)

    -- a jump, if there is one
    jump_or_on : (r : Resolved) (o : Option Jump) → IsSized slots n (option_map_or (λ jump. jump_to jump cells turns) o (go_on r cells turns))
    jump_or_on r None = (long, many)
    jump_or_on r (Some jump) = jump_sized jump

    -- a DO that begins
    begun_sized : (statements : List Resolved) (d variable t : ℕ) (first last step : ℤ)
        → IsSized slots n (begun statements d variable t first last step cells turns)
    begun_sized statements d variable t first last (pos zero) = failed_sized ZeroStep
    begun_sized statements d variable t first last (pos (suc m)) =
        passing_at_sized statements t d (trip_count first last (pos (suc m))) (pos (suc m)) (slice_set cells variable (Some (held.Number first))) turns
        (length-set cells variable (Some (held.Number first)) ∙ long) many
    begun_sized statements d variable t first last (negsuc m) =
        passing_at_sized statements t d (trip_count first last (negsuc m)) (negsuc m) (slice_set cells variable (Some (held.Number first))) turns
        (length-set cells variable (Some (held.Number first)) ∙ long) many

    -- a statement that is executed
    acted_sized : (statements : List Resolved) (i : ℕ) (r : Resolved) (action : Action) → IsSized slots n (acted statements i r action cells turns)
    acted_sized statements i r Declaration = (long, many)
    acted_sized statements i r (AssignNumber e x) =
        used_sized (slot_in cells e) (λ k. used (number_in cells x) cells (λ z. go_on r (slice_set cells k (Some (held.Number z))) turns))
        (λ k. used_sized (number_in cells x) (λ z. go_on r (slice_set cells k (Some (held.Number z))) turns)
        (λ z. (length-set cells k (Some (held.Number z)) ∙ long, many)))
    acted_sized statements i r (AssignTruth e x) =
        used_sized (slot_in cells e) (λ k. used (truth_in cells x) cells (λ b. go_on r (slice_set cells k (Some (held.Truth b))) turns))
        (λ k. used_sized (truth_in cells x) (λ b. go_on r (slice_set cells k (Some (held.Truth b))) turns)
        (λ b. (length-set cells k (Some (held.Truth b)) ∙ long, many)))
    acted_sized statements i r (Goto jump) = jump_sized jump
    acted_sized statements i r (ComputedGoto x jumps) =
        used_sized (number_in cells x) (λ z. option_map_or (λ jump. jump_to jump cells turns) (item_chosen jumps.items z) (go_on r cells turns))
        (λ z. jump_or_on r (item_chosen jumps.items z))
    acted_sized statements i r (ArithmeticIf x a b c) =
        used_sized (number_in cells x) (λ z. jump_to (by_sign z a b c) cells turns) (λ z. jump_sized (by_sign z a b c))
    acted_sized statements i r (LogicalIf' x p action) =
        used_sized (truth_in cells x) (λ b. jump_chosen b (acted statements i r action cells turns) (go_on r cells turns))
        (λ b. chosen_sized b (acted statements i r action cells turns) (go_on r cells turns) (acted_sized statements i r action) (long, many))
    acted_sized statements i r (Branch x otherwise) =
        used_sized (truth_in cells x) (λ b. jump_chosen b (go_on r cells turns) (Goes (state (Execute otherwise) cells turns)))
        (λ b. chosen_sized b (go_on r cells turns) (Goes (state (Execute otherwise) cells turns)) (long, many) (long, many))
    acted_sized statements i r Continue = (long, many)
    acted_sized statements i r (Loop variable first last step t) =
        used_sized (number_in cells first)
        (λ a. used (number_in cells last) cells (λ b. used (number_in cells step) cells (λ c. begun statements i variable t a b c cells turns)))
        (λ a. used_sized (number_in cells last) (λ b. used (number_in cells step) cells (λ c. begun statements i variable t a b c cells turns))
        (λ b. used_sized (number_in cells step) (λ c. begun statements i variable t a b c cells turns)
        (λ c. begun_sized statements i variable t a b c)))
    acted_sized statements i r Return = (λ same. absurd (cc (same)), long)
    acted_sized statements i r Stop = (λ same. absurd (cc (same)), long)
    acted_sized statements i r Trap = failed_sized Trapped

    -- a DO that is incremented
    incremented_sized : (statements : List Resolved) (d : ℕ) (action : Action) (turn : Turn)
        → IsSized slots n (incremented statements d action turn cells turns)
    incremented_sized statements d (Loop variable first last step t) turn =
        used_sized (whole (held_in cells variable))
        (λ z. used (in_range (z +ℤ turn.step)) cells
        (λ next. passing_at statements t d (turn.passes - 1) turn.step (slice_set cells variable (Some (held.Number next))) turns))
        (λ z. used_sized (in_range (z +ℤ turn.step))
        (λ next. passing_at statements t d (turn.passes - 1) turn.step (slice_set cells variable (Some (held.Number next))) turns)
        (λ next. passing_at_sized statements t d (turn.passes - 1) turn.step (slice_set cells variable (Some (held.Number next))) turns
        (length-set cells variable (Some (held.Number next)) ∙ long) many))
    incremented_sized statements d _ turn = (long, many)

    -- a move from a statement
    executed_sized : (statements : List Resolved) (i : ℕ) (r : Resolved) (move : Move) (b : Bool)
        → (if b then Some (acted statements i r r.action cells turns) else None) ≡ Some move → IsSized slots n move
    executed_sized statements i r move false e = absurd (cc (e))
    executed_sized statements i r move true e =
        let same : acted statements i r r.action cells turns ≡ move = cc (e) in
        subst (λ m. IsSized slots n m) same (acted_sized statements i r r.action)

    -- a move from an active DO
    repeated_sized : (statements : List Resolved) (d : ℕ) (r : Resolved) (move : Move) (b : Bool) (o : Option Turn)
        → (if b then option_map (λ turn. incremented statements d r.action turn cells turns) o else None) ≡ Some move → IsSized slots n move
    repeated_sized statements d r move false o e = absurd (cc (e))
    repeated_sized statements d r move true None e = absurd (cc (e))
    repeated_sized statements d r move true (Some turn) e =
        let same : incremented statements d r.action turn cells turns ≡ move = cc (e) in
        subst (λ m. IsSized slots n m) same (incremented_sized statements d r.action turn)

    -- a move from either
    moved_sized : (statements : List Resolved) (move : Move) (place : Place) → moved statements (state place cells turns) ≡ Some move → IsSized slots n move
    moved_sized statements move (Execute i) e = by (slice_get statements i) e
      where
        by : (o : Option Resolved)
            → option_and_then (λ r. if is_executed r.action then Some (acted statements i r r.action cells turns) else None) o ≡ Some move
            → IsSized slots n move
        by None e = absurd (cc (e))
        by (Some r) e = executed_sized statements i r move (is_executed r.action) e
    moved_sized statements move (Increment d) e = by (slice_get statements d) e
      where
        by : (o : Option Resolved)
            → option_and_then
            (λ r. if is_loop r.action then option_map (λ turn. incremented statements d r.action turn cells turns) (turn_at turns d) else None) o
            ≡ Some move
            → IsSized slots n move
        by None e = absurd (cc (e))
        by (Some r) e = repeated_sized statements d r move (is_loop r.action) (turn_at turns d) e

-- a move keeps both numbers
move_sized : (statements : List Resolved) (s : State) (move : Move) → moved statements s ≡ Some move → IsSized (length s.cells) (length s.turns) move
move_sized statements s move e = moved_sized (length s.cells) (length s.turns) s.cells s.turns refl refl statements move s.place e

-- a move that does not end keeps the number of slots, and of the places for what DOs have left
pub lengths_kept : (statements : List Resolved) (s t : State) → moved statements s ≡ Some (Goes t)
    → (length t.cells ≡ length s.cells) × (length t.turns ≡ length s.turns)
lengths_kept statements s t e = move_sized statements s (Goes t) e

-- an end keeps the number of slots
pub end_keeps : (statements : List Resolved) (s : State) (finish : Finish) (cells : Cells) → moved statements s ≡ Some (Ends finish cells)
    → length cells ≡ length s.cells
end_keeps statements s finish cells e = let kept = move_sized statements s (Ends finish cells) e in kept.1

-- Where the machine can move there is an instruction: that of a statement, or of the incrementation of a DO.
module _ (statements : List Resolved) (cells : Cells) (turns : TurnList) where
  -- the incrementation of a DO has one behind those of all statements
  loop_below : (d : ℕ) (r : Resolved) → slice_get statements d ≡ Some r → (b : Bool) → is_loop r.action ≡ b
      → IsSome (if b then option_map (λ turn. incremented statements d r.action turn cells turns) (turn_at turns d) else None)
      → length statements + do_rank statements d < length statements + loop_count statements
  loop_below d r found false is some = absurd (cc (some))
  loop_below d r found true is some =
      let below = rank_below statements d (loop_is statements d r found ∙ is) in
      omega (arith, below)

  -- a statement has one, and a DO that is incremented
  moved_below : (place : Place) → IsSome (moved statements (state place cells turns)) → place_at statements place < length statements + loop_count statements
  moved_below (Execute i) some = by (slice_get statements i) refl some
    where
      by : (o : Option Resolved) → slice_get statements i ≡ o
          → IsSome (option_and_then (λ r. if is_executed r.action then Some (acted statements i r r.action cells turns) else None) o)
          → i < length statements + loop_count statements
      by None found some = absurd (cc (some))
      by (Some r) found some = let within = slice_get_within statements i r found in omega (arith, within)
  moved_below (Increment d) some = by (slice_get statements d) refl some
    where
      by : (o : Option Resolved) → slice_get statements d ≡ o
          → IsSome (option_and_then
          (λ r. if is_loop r.action then option_map (λ turn. incremented statements d r.action turn cells turns) (turn_at turns d) else None) o)
          → length statements + do_rank statements d < length statements + loop_count statements
      by None found some = absurd (cc (some))
      by (Some r) found some = loop_below d r found (is_loop r.action) refl some

module _ (at : RunSite) (statements : List Resolved) where
  -- a run has a move from each state that it comes to
  pub moves_in : (s : State) → IsRunningIn at statements s → IsSome (moved statements s)
  moves_in s is =
      let next = leads_on at.program at.given (stands_for at s) is.formed is.legal is.comes in
      moves_on at.program at.names statements s is.formed is.resolved next.0 next.1

  -- the move is a step of the run
  pub step_in : (s : State) (move : Move) → IsRunningIn at statements s → moved statements s ≡ Some move
      → Step at.program (stands_for at s) (next_of (bounds_of at.program) at.names move)
  step_in s move is e = simulates at.program at.names statements s move is.legal is.resolved is.cells is.turns e

  -- behind a move the run goes on
  pub runs_on_in : (s t : State) → IsRunningIn at statements s → moved statements s ≡ Some (Goes t) → IsRunningIn at statements t
  runs_on_in s t is e =
      let kept = lengths_kept statements s t e in
      record {
        formed = is.formed;
        legal = is.legal;
        resolved = is.resolved;
        cells = kept.0 ∙ is.cells;
        turns = kept.1 ∙ is.turns;
        comes = Comes.by_step is.comes (step_in s (Goes t) is e);
      }

  -- the DOs that end where control is are active as they have to be
  pub nested_in : (s : State) → IsRunningIn at statements s → IsNested statements s
  nested_in s is = stands_nested at.program at.names at.given statements s is.formed is.legal is.resolved is.comes

  -- where control is there is an instruction
  pub place_below : (s : State) → IsRunningIn at statements s → place_at statements s.place < length statements + loop_count statements
  place_below s is = moved_below statements s.cells s.turns s.place (moves_in s is)

  -- what moves behind a first one lead to, they lead to with it
  with_first : (n : ℕ) (s t : State) (move : Move) → Step at.program (stands_for at s) (next_of (bounds_of at.program) at.names (Goes t))
      → ComesIn at statements n (stands_for at t) move → ComesIn at statements (suc n) (stands_for at s) move
  with_first n s t (Goes u) step comes = ((stands_for at t, step, comes.0), comes.1)
  with_first n s t (Ends finish cells) step comes = (inr (stands_for at t, step, comes.0), comes.1)

  -- From a state in a run n moves can be made, or fewer up to an end, and the run comes to the same.
  pub moves_by : (n : ℕ) (s : State) → IsRunningIn at statements s
      → (move : Move) × (moved_by statements n s ≡ Some move) × ComesIn at statements n (stands_for at s) move
  moves_by zero s is = (Goes s, refl, (refl, is))
  moves_by (suc n) s is = by (moved statements s) refl (moves_in s is) (λ t. moves_by n t)
    where
      by : (o : Option Move) → moved statements s ≡ o → IsSome o
          → ((t : State) → IsRunningIn at statements t
          → (move : Move) × (moved_by statements n t ≡ Some move) × ComesIn at statements n (stands_for at t) move)
          → (move : Move) × (option_and_then (then_moved (moved_by statements n)) o ≡ Some move) × ComesIn at statements (suc n) (stands_for at s) move
      by None e some rest = absurd (cc (some))
      by (Some (Goes t)) e some rest =
          let behind = rest t (runs_on_in s t is e) in
          (behind.0, behind.1, with_first n s t behind.0 (step_in s (Goes t) is e) behind.2)
      by (Some (Ends finish cells)) e some rest =
          (Ends finish cells, refl, (inl (step_in s (Ends finish cells) is e), end_keeps statements s finish cells e ∙ is.cells))

  -- what n moves lead to, the run comes to
  pub comes_by : (n : ℕ) (s : State) (move : Move) → IsRunningIn at statements s → moved_by statements n s ≡ Some move
      → ComesIn at statements n (stands_for at s) move
  comes_by n s move is e =
      let made = moves_by n s is in
      let known = made.1 in
      let same : made.0 ≡ move = cc (known, e) in
      subst (ComesIn at statements n (stands_for at s)) same made.2

  -- the states from which these moves are made are nested
  pub all_nested : (n : ℕ) (s : State) → IsRunningIn at statements s → AreStatesNested statements n s
  all_nested n s is = λ k t below e.
      let came : ComesIn at statements k (stands_for at s) (Goes t) = comes_by k s (Goes t) is e in
      nested_in t came.1

  -- where n moves end, more moves end too
  pub ends_later : (made steps : ℕ) (s : State) (finish : Finish) (cells : Cells) → made ≤ steps → moved_by statements made s ≡ Some (Ends finish cells)
      → moved_by statements steps s ≡ Some (Ends finish cells)
  ends_later zero steps s finish cells within e = let same : Goes s ≡ Ends finish cells = cc (e) in absurd (cc (same))
  ends_later (suc made) zero s finish cells within e = absurd (omega (arith, within))
  ends_later (suc made) (suc steps) s finish cells within e =
      by (moved statements s) (λ t. ends_later made steps t finish cells (omega (arith, within))) e
    where
      by : (o : Option Move) → ((t : State) → moved_by statements made t ≡ Some (Ends finish cells) → moved_by statements steps t ≡ Some (Ends finish cells))
          → option_and_then (then_moved (moved_by statements made)) o ≡ Some (Ends finish cells)
          → option_and_then (then_moved (moved_by statements steps)) o ≡ Some (Ends finish cells)
      by None rest e = e
      by (Some (Goes t)) rest e = rest t e
      by (Some (Ends ended kept)) rest e = e
