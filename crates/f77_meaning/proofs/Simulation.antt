-- A step of the machine is a step of the run that it stands for.
use Rattle.f77_meaning.proofs.Common.{List, ℕ, ◌≡◌, refl, Some, true, ap, arith, ◌∙◌, None, false, [], sym, ◌∷◌, Bool, Option, suc, length, zero, ◌<◌, ◌+◌, inr}
use Rattle.f77_meaning.proofs.Common.{inl, subst, option_map, ℤ, ◌≤◌, slice_get, if◌then◌else◌, pos, Err, Ok, Result, negsuc, ◌==◌, nat_lt, ◌&&◌, IsSome}
use Rattle.f77_meaning.proofs.Common.{MatchOption, slice_set, eqb-true, ltb-true, ◌*◌, and_parts, cases_lt, same_Some, slice_get_past, slice_get_within}
use Rattle.f77_meaning.proofs.Common.{option_map_or, option_and_then, given, element, Loop, Action, ArithmeticIf, AssignNumber, AssignTruth, Branch}
use Rattle.f77_meaning.proofs.Common.{ComputedGoto, Continue, Declaration, Goto, LogicalIf', Return, Stop, Trap, Jump, Variable, Element, Matrix', Vector'}
use Rattle.f77_meaning.proofs.Common.{Number, Fault, Resolved, Value, IsAction, IsJump, IsAssignment, IsIncrementation, IsElement, AreResolved, IsResolved}
use Rattle.f77_meaning.proofs.Common.{slot_count, first_slot, item_chosen, by_sign, number_in, slot_in, Cells, State, TurnList, turn_at, Move, state}
use Rattle.f77_meaning.proofs.Common.{incremented, is_loop, used, without, acted, go_on, is_executed, jump_chosen, jump_to, moved, inner_acts, kept_by}
use Rattle.f77_meaning.proofs.Common.{clause_kept, not_false, product, nth_statement, IsLegal, Symbol, bounds_of, kind_of, Bounds, Store, values_of, store_with}
use Rattle.f77_meaning.proofs.Common.{place, value, placed_in_run, config, Next, GoesOn, Begins, Increments, With, step_number, Either, Executes, Jumps, StepAt}
use Rattle.f77_meaning.proofs.Common.{Step, is_action, LineFields, IsProgram, Statement, Tree, Trees}
use Rattle.std.proofs.Math.Nat.{mul-le-mul_left}
use Rattle.f77_legal.specs.Dimensions.{dimensions_fit}
use Rattle.f77_code.specs.declared.control.Place.{Place}
use Rattle.f77_code.specs.declared.control.Place.TheVariants.{Execute, Increment}
use Rattle.f77_code.specs.declared.control.Turn.{Turn}
use Rattle.f77_actions.specs.declared.value.Value.TheVariants as held
use Rattle.f77_meaning.specs.Step as run
use Rattle.f77_meaning.proofs.StateDefinitions.{turn_of, turns_of, config_of, next_of}
use Rattle.f77_meaning.proofs.SameValue.{same_number, same_slot, same_truth}
use Rattle.f77_meaning.proofs.Stored.{stored}
use Rattle.f77_meaning.proofs.Looping.{with_used, with_slot, row_at, begins, increments}
use Rattle.f77_meaning.proofs.Numbered.{IsJumpOf, numbered_jump}
use Rattle.f77_meaning.proofs.Soundness.{there}
use Rattle.f77_meaning.proofs.Turning.{turns_left, goes_on}

-- the place of an element is below the number of elements
element_below : (bounds : List ℕ) (zs : List ℤ) (k : ℕ) → element bounds zs ≡ Ok k → k < product bounds
element_below [] [] k e = let same : 0 ≡ k = cc (e) in omega (arith, same)
element_below (bound ∷ bounds) (pos (suc n) ∷ zs) k e = by (nat_lt n bound) refl (element bounds zs) refl (element_below bounds zs) e
  where
    by : (b : Bool) → nat_lt n bound ≡ b → (o : Result ℕ Fault) → element bounds zs ≡ o → ((j : ℕ) → element bounds zs ≡ Ok j → j < product bounds)
        → element (bound ∷ bounds) (pos (suc n) ∷ zs) ≡ Ok k → k < bound * product bounds
    by true below (Ok rest) at again e =
        let whole : element (bound ∷ bounds) (pos (suc n) ∷ zs) ≡ Ok (n + bound * rest) = rw (below, at) refl in
        let same : n + bound * rest ≡ k = cc (whole, e) in
        let within : bound * suc rest ≤ bound * product bounds = mul-le-mul_left bound (again rest at) in
        let first = ltb-true n bound below in
        omega (arith, same, within, first)
    by true below (Err f) at again e =
        let whole : element (bound ∷ bounds) (pos (suc n) ∷ zs) ≡ Err f = rw (below, at) refl in
        absurd (cc (whole, e))
    by false below o at again e = absurd (cc (rw below at e))
element_below _ _ k e = absurd (cc (e))

numbers_below : (bounds : List ℕ) (r : Result (List ℤ) Fault) (k : ℕ) → given r (element bounds) ≡ Ok k → k < product bounds
numbers_below bounds (Ok zs) k e = element_below bounds zs k e
numbers_below bounds (Err f) k e = absurd (cc (e))

-- each element stands behind the first of its name
element_starts : (bounds : Symbol → List ℕ) (names : List Symbol) (name : Symbol) (items : Trees) (e : Element) → IsElement bounds names name items e
    → (first : ℕ) × (first_slot bounds names name ≡ Some first)
element_starts bounds names name Trees.None (Variable slot) h = (slot, h.1)
element_starts bounds names name (Trees.Then t Trees.None) (Vector' first bound p x) h = (first, h.1)
element_starts bounds names name (Trees.Then t (Trees.Then u Trees.None)) (Matrix' first rows columns p x q y) h = (first, h.1)
element_starts bounds names name _ _ h = absurd h

-- a DO variable of a legal program is no array
pub no_bounds : (bounds : List ℕ) (b : Bool) → ((length bounds == 0) && b) ≡ true → bounds ≡ []
no_bounds [] b h = refl
no_bounds (bound ∷ bounds) b h = let none = eqb-true (length (bound ∷ bounds)) 0 (and_parts (length (bound ∷ bounds) == 0) b h).0 in absurd (omega (arith, none))

pub legal_fits : (p : List LineFields) → IsLegal p → (i : ℕ) (s : Statement) → nth_statement p i ≡ Some s → dimensions_fit (bounds_of p) s ≡ true
legal_fits p legal i s at = not_false (dimensions_fit (bounds_of p) s) (clause_kept Bounds p (kept_by p legal).bounds i s at)

with_value : {A : Type 0} (q : Result A Fault) (wrap : A → Value) (store : Store) (n : Next) (P : Value → Type 0) → With q store n (λ x. P (wrap x))
    → With (given q (λ x. Ok (wrap x))) store n P
with_value (Ok x) wrap store n P h = h
with_value (Err f) wrap store n P h = h

chooses : (bounds : Symbol → List ℕ) (names : List Symbol) (b : Bool) (x y : Move) (n : Next) (P Q : Type 0)
    → (n ≡ next_of bounds names x → P) → (n ≡ next_of bounds names y → Q) → n ≡ next_of bounds names (jump_chosen b x y) → Either b P Q
chooses bounds names true x y n P Q f g e = f e
chooses bounds names false x y n P Q f g e = g e

step_number_same : (bounds : Symbol → List ℕ) (names : List Symbol) (cells : Cells) (c : Option Tree) (x : Number) → IsIncrementation bounds names c x
    → number_in cells x ≡ step_number bounds (values_of bounds names cells) c
step_number_same bounds names cells None x h = ap (number_in cells) h
step_number_same bounds names cells (Some t) x h = same_number bounds names cells t x h

-- what a resolved statement comes from
pub statement_of : (p : List LineFields) (names : List Symbol) (statements : List Resolved) → AreResolved p names statements → (i : ℕ) (r : Resolved)
    → slice_get statements i ≡ Some r → (s : Statement) × (nth_statement p i ≡ Some s) × IsResolved p names i s r
statement_of p names statements resolved i r at =
    let within = slice_get_within statements i r at in
    let count = resolved.count in
    let s = there p i (omega (arith, within, count)) in
    (s.0, s.1, resolved.each i s.0 r s.1 at)

module _ (p : List LineFields) (names : List Symbol) (cells : Cells) (turns : TurnList) where
  abbrev store : Store
  store = values_of (bounds_of p) names cells

  abbrev next : Move → Next
  next m = next_of (bounds_of p) names m

  module _ (statements : List Resolved) (resolved : AreResolved p names statements) (sized : length cells ≡ slot_count (bounds_of p) names) (long : length turns ≡ length p) where
    module _ (i : ℕ) (whole : Statement) (r : Resolved) (is : IsResolved p names i whole r) (n : Next) where
      continues : n ≡ next (go_on r cells turns) → GoesOn p i store (turns_of turns) n
      continues e = subst (GoesOn p i store (turns_of turns)) (sym e) (goes_on p names i whole r is store turns)

      continues_with : (name : Symbol) (first k : ℕ) (v : Value) → first_slot (bounds_of p) names name ≡ Some first → k < product (bounds_of p name)
          → n ≡ next (go_on r (slice_set cells (first + k) (Some v)) turns) → GoesOn p i (store_with store name k v) (turns_of turns) n
      continues_with name first k v at below e =
          subst (GoesOn p i (store_with store name k v) (turns_of turns)) (sym e)
          (subst (λ s. GoesOn p i s (turns_of turns) (next (go_on r (slice_set cells (first + k) (Some v)) turns)))
          (stored (bounds_of p) names cells name first k v sized at below)
          (goes_on p names i whole r is (values_of (bounds_of p) names (slice_set cells (first + k) (Some v))) turns))

      assigns_value : {A : Type 0} (name : Symbol) (items : Trees) (t : Tree) (e : Element) (q x : Result A Fault) (wrap : A → Value) → IsElement (bounds_of p) names name items e
          → x ≡ q → given q (λ v. Ok (wrap v)) ≡ value (kind_of p name) (bounds_of p) store t
          → n ≡ next (used (slot_in cells e) cells (λ k. used x cells (λ v. go_on r (slice_set cells k (Some (wrap v))) turns)))
          → Executes p i (Statement.Assign name items t) store (turns_of turns) n
      assigns_value name items t e q x wrap h same has goes =
          let first = element_starts (bounds_of p) names name items e h in
          with_slot (bounds_of p) names cells (place (bounds_of p) store name items) (slot_in cells e) first.0
          (same_slot (bounds_of p) names cells name items e first.0 h first.1) _ n _
          (λ k at on. subst (λ v. With v store n (λ v. GoesOn p i (store_with store name k v) (turns_of turns) n)) has
          (with_value q wrap store n _
          (with_used (bounds_of p) names cells q x same _ n _
          (λ v e. continues_with name first.0 k (wrap v) first.1 (numbers_below (bounds_of p name) _ k at) e) on)))
          goes

      assigns : (name : Symbol) (items : Trees) (t : Tree) (action : Action) → IsAssignment (kind_of p) (bounds_of p) names name items t action
          → n ≡ next (acted statements i r action cells turns) → Executes p i (Statement.Assign name items t) store (turns_of turns) n
      assigns name items t (AssignNumber e x) h goes =
          assigns_value name items t e _ _ held.Number h.1 (same_number (bounds_of p) names cells t x h.2) (sym (ap (λ kind. value kind (bounds_of p) store t) h.0)) goes
      assigns name items t (AssignTruth e x) h goes =
          assigns_value name items t e _ _ held.Truth h.1 (same_truth (bounds_of p) names cells t x h.2) (sym (ap (λ kind. value kind (bounds_of p) store t) h.0)) goes
      assigns name items t _ h goes = absurd h

      jumps : (label : ℕ) (jump : Jump) → IsJump p i label jump → n ≡ next (jump_to jump cells turns) → Jumps p i label store (turns_of turns) n
      jumps label jump h e =
          let left : turns_of (without turns jump.leaves.items) ≡ run.left_behind p i jump.target (turns_of turns)
          = ap (λ ds. turns_of (without turns ds)) h.leaves ∙ turns_left p i jump.target turns long in
          (jump.target, h.target, e ∙ ap (λ active. run.Goes (config (run.Execute jump.target) store active)) left)

      jumps_by_sign : (l m k : ℕ) (a b c : Jump) → IsJump p i l a → IsJump p i m b → IsJump p i k c → (z : ℤ) → n ≡ next (jump_to (by_sign z a b c) cells turns)
          → Jumps p i (by_sign z l m k) store (turns_of turns) n
      jumps_by_sign l m k a b c f g h (negsuc z) e = jumps l a f e
      jumps_by_sign l m k a b c f g h (pos zero) e = jumps m b g e
      jumps_by_sign l m k a b c f g h (pos (suc z)) e = jumps k c h e

      jumps_or_continues : (label : Option ℕ) (jump : Option Jump) → IsJumpOf p i label jump
          → n ≡ next (option_map_or (λ jump. jump_to jump cells turns) jump (go_on r cells turns))
          → MatchOption label (GoesOn p i store (turns_of turns) n) (λ label. Jumps p i label store (turns_of turns) n)
      jumps_or_continues None None h e = continues e
      jumps_or_continues (Some label) (Some jump) h e = jumps label jump h e
      jumps_or_continues _ _ h e = absurd h

      executes : (stmt : Statement) (action : Action) → IsAction (kind_of p) (bounds_of p) names p i stmt action → dimensions_fit (bounds_of p) stmt ≡ true
          → is_executed action ≡ true → n ≡ next (acted statements i r action cells turns) → Executes p i stmt store (turns_of turns) n
      executes (Statement.Subroutine name dummies) Declaration h fits may e = absurd (cc (may))
      executes (Statement.Declare kind ds) Declaration h fits may e = absurd (cc (may))
      executes (Statement.Dimension ds) Declaration h fits may e = absurd (cc (may))
      executes (Statement.Preset gs) Declaration h fits may e = absurd (cc (may))
      executes (Statement.Assign name items t) action h fits may e = assigns name items t action h e
      executes (Statement.Goto label) (Goto jump) h fits may e = jumps label jump h e
      executes (Statement.ComputedGoto labels t) (ComputedGoto x js) h fits may e =
          with_used (bounds_of p) names cells _ _ (same_number (bounds_of p) names cells t x h.0) _ n _
          (λ z. jumps_or_continues (item_chosen labels z) (item_chosen js.items z) (numbered_jump p i labels js.items h.1 z)) e
      executes (Statement.ArithIf t l m k) (ArithmeticIf x a b c) h fits may e =
          with_used (bounds_of p) names cells _ _ (same_number (bounds_of p) names cells t x h.0) _ n _ (jumps_by_sign l m k a b c h.1 h.2 h.3) e
      executes (Statement.LogicalIf t s) (LogicalIf' x q action) h fits may e =
          with_used (bounds_of p) names cells _ _ (same_truth (bounds_of p) names cells t x h.0) _ n _
          (λ b. chooses (bounds_of p) names b _ _ n _ _ (executes s action h.1 (and_parts _ _ fits).1 may) continues) e
      executes (Statement.BlockIf t) (Branch x otherwise) h fits may e =
          with_used (bounds_of p) names cells _ _ (same_truth (bounds_of p) names cells t x h.0) _ n _
          (λ b. chooses (bounds_of p) names b _ _ n _ _ continues (λ skips. (otherwise, h.1, skips))) e
      executes (Statement.ElseIf t) (Branch x otherwise) h fits may e =
          with_used (bounds_of p) names cells _ _ (same_truth (bounds_of p) names cells t x h.0) _ n _
          (λ b. chooses (bounds_of p) names b _ _ n _ _ continues (λ skips. (otherwise, h.1, skips))) e
      executes Statement.Else Continue h fits may e = continues e
      executes Statement.EndIf Continue h fits may e = continues e
      executes (Statement.Loop label name a b c) (Loop variable first last step t) h fits may e =
          with_used (bounds_of p) names cells _ _ (same_number (bounds_of p) names cells a first h.1) _ n _
          (λ x. with_used (bounds_of p) names cells _ _ (same_number (bounds_of p) names cells b last h.2) _ n _
          (λ y. with_used (bounds_of p) names cells _ _ (step_number_same (bounds_of p) names cells c step h.3) _ n _
          (λ z on. subst (Begins p i name x y z store (turns_of turns)) (sym on)
          (begins p names turns long statements resolved cells sized name variable t i h.0 (no_bounds (bounds_of p name) _ fits) h.4 x y z)))) e
      executes Statement.Continue Continue h fits may e = continues e
      executes Statement.Return Return h fits may e = e
      executes Statement.Stop Stop h fits may e = e
      executes Statement.Trap Trap h fits may e = e
      executes Statement.End Return h fits may e = e
      executes _ _ h fits may e = absurd h

      increments_loop : (stmt : Statement) (action : Action) (turn : Turn) → IsAction (kind_of p) (bounds_of p) names p i stmt action → dimensions_fit (bounds_of p) stmt ≡ true
          → is_loop action ≡ true → n ≡ next (incremented statements i action turn cells turns) → Increments p i stmt (turn_of turn) store (turns_of turns) n
      increments_loop (Statement.Loop label name a b c) (Loop variable first last step t) turn h fits may e =
          increments p names turns long statements resolved cells sized name variable t i h.0 (no_bounds (bounds_of p name) _ fits) h.4 label a b c first last step turn n e
      increments_loop _ (Loop variable first last step t) turn h fits may e = absurd h
      increments_loop _ _ turn h fits may e = absurd (cc (may))

    module _ (legal : IsLegal p) (m : Move) where
      steps_by : (i : ℕ) (r : Resolved) → slice_get statements i ≡ Some r → (b : Bool) → is_executed r.action ≡ b
          → (if b then Some (acted statements i r r.action cells turns) else None) ≡ Some m → StepAt p (run.Execute i) store (turns_of turns) (next m)
      steps_by i r at true may e =
          let s = statement_of p names statements resolved i r at in
          subst (λ o. MatchOption o ⊥ (λ stmt. Executes p i stmt store (turns_of turns) (next m))) (sym s.1)
          (executes i s.0 r s.2 (next m) s.0 r.action s.2.action (legal_fits p legal i s.0 s.1) may (ap next (sym (same_Some _ _ e))))
      steps_by i r at false may e = absurd (cc (e))

      steps : (i : ℕ) (o : Option Resolved) → slice_get statements i ≡ o
          → option_and_then (λ r. if is_executed r.action then Some (acted statements i r r.action cells turns) else None) o ≡ Some m
          → StepAt p (run.Execute i) store (turns_of turns) (next m)
      steps i None at e = absurd (cc (e))
      steps i (Some r) at e = steps_by i r at (is_executed r.action) refl e

      repeats_with : (d : ℕ) (r : Resolved) → slice_get statements d ≡ Some r → is_loop r.action ≡ true → (o : Option Turn) → turn_at turns d ≡ o
          → option_map (λ turn. incremented statements d r.action turn cells turns) o ≡ Some m → StepAt p (run.Increment d) store (turns_of turns) (next m)
      repeats_with d r at loop None is e = absurd (cc (e))
      repeats_with d r at loop (Some turn) is e =
          let s = statement_of p names statements resolved d r at in
          subst (λ o. MatchOption o ⊥ (λ stmt. MatchOption (turns_of turns d) ⊥ (λ turn. Increments p d stmt turn store (turns_of turns) (next m)))) (sym s.1)
          (subst (λ o. MatchOption (option_map turn_of o) ⊥ (λ turn. Increments p d s.0 turn store (turns_of turns) (next m))) (sym is)
          (increments_loop d s.0 r s.2 (next m) s.0 r.action turn s.2.action (legal_fits p legal d s.0 s.1) loop (ap next (sym (same_Some _ _ e)))))

      repeats_by : (d : ℕ) (r : Resolved) → slice_get statements d ≡ Some r → (b : Bool) → is_loop r.action ≡ b
          → (if b then option_map (λ turn. incremented statements d r.action turn cells turns) (turn_at turns d) else None) ≡ Some m
          → StepAt p (run.Increment d) store (turns_of turns) (next m)
      repeats_by d r at true loop e = repeats_with d r at loop (turn_at turns d) refl e
      repeats_by d r at false loop e = absurd (cc (e))

      repeats : (d : ℕ) (o : Option Resolved) → slice_get statements d ≡ o
          → option_and_then (λ r. if is_loop r.action then option_map (λ turn. incremented statements d r.action turn cells turns) (turn_at turns d) else None) o ≡ Some m
          → StepAt p (run.Increment d) store (turns_of turns) (next m)
      repeats d None at e = absurd (cc (e))
      repeats d (Some r) at e = repeats_by d r at (is_loop r.action) refl e

      simulates_at : (at : Place) → moved statements (state at cells turns) ≡ Some m → StepAt p (placed_in_run at) store (turns_of turns) (next m)
      simulates_at (Execute i) e = steps i (slice_get statements i) refl e
      simulates_at (Increment d) e = repeats d (slice_get statements d) refl e

-- what the machine does in a step is a step of the run
pub simulates : (p : List LineFields) (names : List Symbol) (statements : List Resolved) (s : State) (m : Move) → IsLegal p → AreResolved p names statements
    → length s.cells ≡ slot_count (bounds_of p) names → length s.turns ≡ length p → moved statements s ≡ Some m
    → Step p (config_of (bounds_of p) names s) (next_of (bounds_of p) names m)
simulates p names statements s m legal resolved sized long e = simulates_at p names s.cells s.turns statements resolved sized long legal m s.place e

-- where a run steps, the machine moves
module _ (p : List LineFields) (names : List Symbol) (i : ℕ) (store : Store) (active : run.Turns) (n : Next) where
  not_declared : (stmt : Statement) → IsAction (kind_of p) (bounds_of p) names p i stmt Declaration → is_action stmt ≡ true → ⊥
  not_declared (Statement.Subroutine name dummies) h acts = absurd (cc (acts))
  not_declared (Statement.Declare kind ds) h acts = absurd (cc (acts))
  not_declared (Statement.Dimension ds) h acts = absurd (cc (acts))
  not_declared (Statement.Preset gs) h acts = absurd (cc (acts))
  not_declared _ h acts = h

  inner_executed : (stmt : Statement) (action : Action) → IsAction (kind_of p) (bounds_of p) names p i stmt action → is_action stmt ≡ true → is_executed action ≡ true
  inner_executed stmt Declaration h acts = absurd (not_declared stmt h acts)
  inner_executed (Statement.LogicalIf t s) (LogicalIf' x q action) h acts = absurd (cc (acts))
  inner_executed _ (LogicalIf' x q action) h acts = absurd h
  inner_executed _ _ h acts = refl

  never_declared : (stmt : Statement) → IsAction (kind_of p) (bounds_of p) names p i stmt Declaration → Executes p i stmt store active n → ⊥
  never_declared (Statement.Subroutine name dummies) h step = step
  never_declared (Statement.Declare kind ds) h step = step
  never_declared (Statement.Dimension ds) h step = step
  never_declared (Statement.Preset gs) h step = step
  never_declared _ h step = h

  executed : (stmt : Statement) (action : Action) → IsAction (kind_of p) (bounds_of p) names p i stmt action
      → ((t : Tree) (s : Statement) → stmt ≡ Statement.LogicalIf t s → is_action s ≡ true) → Executes p i stmt store active n → is_executed action ≡ true
  executed stmt Declaration h inner step = absurd (never_declared stmt h step)
  executed (Statement.LogicalIf t s) (LogicalIf' x q action) h inner step = inner_executed s action h.1 (inner t s refl)
  executed _ (LogicalIf' x q action) h inner step = absurd h
  executed _ _ h inner step = refl

  incremented_loop : (stmt : Statement) (action : Action) (turn : run.Turn) → IsAction (kind_of p) (bounds_of p) names p i stmt action
      → Increments p i stmt turn store active n → is_loop action ≡ true
  incremented_loop (Statement.Loop label name a b c) (Loop variable first last step t) turn h goes = refl
  incremented_loop (Statement.Loop label name a b c) _ turn h goes = absurd h
  incremented_loop _ _ turn h goes = absurd goes

no_statement : (p : List LineFields) (i : ℕ) → length p ≤ i → nth_statement p i ≡ None
no_statement p i past = ap (option_map (λ line. line.stmt)) (slice_get_past p i past)

module _ (p : List LineFields) (names : List Symbol) (statements : List Resolved) (program : IsProgram None p) (resolved : AreResolved p names statements) (store : Store)
    (cells : Cells) (turns : TurnList) (n : Next) where
  moves_statement : (i : ℕ) → StepAt p (run.Execute i) store (turns_of turns) n → IsSome (moved statements (state (Execute i) cells turns))
  moves_statement i step =
      elim (cases_lt i (length p)) [
        | inl below ↦
            let row = row_at p names statements resolved i below in
            let executes = subst (λ o. MatchOption o ⊥ (λ stmt. Executes p i stmt store (turns_of turns) n)) row.there step in
            let may : is_executed row.resolved.action ≡ true
            = executed p names i store (turns_of turns) n row.statement row.resolved.action row.is.action
            (λ t s same. inner_acts p program i t s (row.there ∙ ap (λ (x : Statement). Some x) same)) executes in
            rw (row.found, may) refl
        | inr past ↦ absurd (subst (λ o. MatchOption o ⊥ (λ stmt. Executes p i stmt store (turns_of turns) n)) (no_statement p i past) step)
      ]

  moves_loop_by : (d : ℕ) → d < length p → (o : Option Turn) → turn_at turns d ≡ o
      → MatchOption (nth_statement p d) ⊥ (λ stmt. MatchOption (option_map turn_of o) ⊥ (λ turn. Increments p d stmt turn store (turns_of turns) n))
      → IsSome (moved statements (state (Increment d) cells turns))
  moves_loop_by d below None is step =
      let row = row_at p names statements resolved d below in
      absurd (subst (λ o. MatchOption o ⊥ (λ stmt. ⊥)) row.there step)
  moves_loop_by d below (Some turn) is step =
      let row = row_at p names statements resolved d below in
      let repeats = subst (λ o. MatchOption o ⊥ (λ stmt. Increments p d stmt (turn_of turn) store (turns_of turns) n)) row.there step in
      let loop : is_loop row.resolved.action ≡ true
      = incremented_loop p names d store (turns_of turns) n row.statement row.resolved.action (turn_of turn) row.is.action repeats in
      rw (row.found, loop, is) refl

  moves_loop : (d : ℕ) → StepAt p (run.Increment d) store (turns_of turns) n → IsSome (moved statements (state (Increment d) cells turns))
  moves_loop d step =
      elim (cases_lt d (length p)) [
        | inl below ↦ moves_loop_by d below (turn_at turns d) refl step
        | inr past ↦
            absurd (subst (λ o. MatchOption o ⊥ (λ stmt. MatchOption (turns_of turns d) ⊥ (λ turn. Increments p d stmt turn store (turns_of turns) n))) (no_statement p d past) step)
      ]

  moves_at : (at : Place) → StepAt p (placed_in_run at) store (turns_of turns) n → IsSome (moved statements (state at cells turns))
  moves_at (Execute i) step = moves_statement i step
  moves_at (Increment d) step = moves_loop d step

pub moves_on : (p : List LineFields) (names : List Symbol) (statements : List Resolved) (s : State) → IsProgram None p → AreResolved p names statements
    → (n : Next) → Step p (config_of (bounds_of p) names s) n → IsSome (moved statements s)
moves_on p names statements s program resolved n step =
    moves_at p names statements program resolved (values_of (bounds_of p) names s.cells) s.cells s.turns n s.place step
