-- Steps, by what statements mean and where control goes.
use Rattle.f77_symbolic.proofs.Common.{arith, ◌≡◌, ◌≢◌, inl, inr, ◌+◌, ℕ, zero, suc, Bool, true, false, not, List, length, refl, sym, ap, ◌∙◌, subst, Term}
use Rattle.f77_symbolic.proofs.Common.{Option, Some, None, ℤ, pos, negsuc, of_z, to_z, w64, if◌then◌else◌, Result}
use Rattle.f77_symbolic.proofs.Common.{slice_get, slice_set, ints, slice_get_past, is_same, is_below}
use Rattle.f77_symbolic.proofs.Common.{trip_count, whole, Fault, Resolved, Value, Cells, Turn, TurnList, Move, Goes, Ends, begun, go_on}
use Rattle.f77_symbolic.proofs.Common.{passing, passing_at, used, Holds, Valuation, Path}
use Rattle.f77_symbolic.proofs.Common.{Evaluator, Extends, Location, Side, Step, Answers, HasItem, ReadsCell, GoesTo, Stepped}
use Rattle.f77_symbolic.proofs.Common.{Symbolic, AreInside, IsInside, cells_of, content_of, slot_of, state_of, sum_value, turns_of, bool_byte}
use Rattle.f77_symbolic.specs.code.{AlwaysSteps, Yields, YieldsNumber}
use Rattle.std.proofs.lemmas.Bool.Decides.{nat_tests}
use Rattle.std.proofs.Math.Numerals.{add-one}
use Rattle.f77_actions.specs.declared.action.Jump.{Jump}
use Rattle.f77_actions.specs.declared.finish.Finish.TheVariants.{Returned, Stopped, Failed, StepLimit}
use Rattle.f77_actions.specs.declared.value.Value.TheVariants as held
use Rattle.f77_code.specs.Choice.{by_sign, item_chosen}
use Rattle.f77_symbolic.specs.declared.sides.Step.TheVariants as step
use Rattle.f77_symbolic.proofs.Answering.{answers_at, known_steps, used_steps}
use Rattle.f77_symbolic.proofs.Extending.{extends_same, extends_then}

module _ (start : Cells) (v : Valuation) (own : Bool) (path : Path) (before after : Side) (made : Step) where
  -- a move to the state of the side behind it
  pub moved_to : (m : Move) → made ≡ step.Moves → Holds v path → AreInside v after.writes.items → m ≡ Goes (state_of start v after)
      → Stepped start v own path before after made (Some m)
  moved_to m moves holds inside is = rw is (moves, holds, inside, refl)

  -- control goes on from a side
  pub goes_stepped : (side : Side) (move : Cells → TurnList → Move) (m : Move) → GoesTo v side after made move → Holds v path → AreInside v side.writes.items
      → m ≡ move (cells_of start v side.writes.items) (turns_of v side.turns.items) → Stepped start v own path before after made (Some m)
  goes_stepped side move m goes holds inside is = moved_to m goes.moves holds (rw goes.writes inside) (is ∙ goes.goes start)

-- where the path holds nowhere, the program itself faults
pub stepped_void : (start : Cells) (v : Valuation) (own : Bool) (path : Path) (before after : Side) (made : Step) (m : Option Move) → (Holds v path → ⊥)
    → Stepped start v own path before after made m → Stepped start v own path before after step.Faults m
stepped_void start v own path before after made None none stepped = stepped
stepped_void start v own path before after made (Some (Goes s)) none stepped = absurd (none stepped.1)
stepped_void start v own path before after made (Some (Ends (Failed fault) cells)) none stepped = stepped
stepped_void start v own path before after made (Some (Ends Returned cells)) none stepped = absurd (none stepped.1)
stepped_void start v own path before after made (Some (Ends Stopped cells)) none stepped = absurd (none stepped.1)
stepped_void start v own path before after made (Some (Ends StepLimit cells)) none stepped = absurd (none stepped.1)

-- control goes on, by what the path tells
pub goes_always : (evaluator : Evaluator) (before after : Side) (made : Step) (move : Cells → TurnList → Move) (meaning : Valuation → Cells → TurnList → Move)
    → ((v : Valuation) → GoesTo v before after made move)
    → ((v : Valuation) → Holds v evaluator.path → (cells : Cells) (turns : TurnList) → meaning v cells turns ≡ move cells turns)
    → AlwaysSteps evaluator evaluator before after made (λ v cells turns. Some (meaning v cells turns))
goes_always evaluator before after made move meaning goes same start v there holds inside =
    goes_stepped start.cells v evaluator.own evaluator.path before after made before move _ (goes v) holds inside (same v holds _ _)

-- what an expression yields is used
pub yield_steps : {A : Type 0} (old mid new : Evaluator) (before after : Side) (made : Step) (meaning : Cells → Result A Fault) (value : Valuation → A)
    (f : Valuation → A → Cells → TurnList → Move) → Extends mid.atoms new.atoms → Yields old mid before.writes.items meaning (λ v x. value v ≡ x)
    → AlwaysSteps mid new before after made (λ v cells turns. Some (f v (value v) cells turns))
    → AlwaysSteps old new before after made (λ v cells turns. Some (used (meaning cells) cells (λ x. f v x cells turns)))
yield_steps old mid new before after made meaning value f extends yields next start v there holds inside =
    let cells = cells_of start.cells v before.writes.items in
    known_steps start.cells v old mid new before after made (meaning cells) cells (λ x. f v x cells (turns_of v before.turns.items)) (value v)
    (yields start v (extends.back start v there) holds inside) (λ on. next start v there on inside)

-- what an expression yields tells where control goes
pub yield_goes : {A : Type 0} (old new : Evaluator) (before after : Side) (made : Step) (meaning : Cells → Result A Fault) (value : Valuation → A)
    (chosen : A → Cells → TurnList → Move) (move : Cells → TurnList → Move) → Yields old new before.writes.items meaning (λ v x. value v ≡ x)
    → ((v : Valuation) → GoesTo v before after made move)
    → ((v : Valuation) → Holds v new.path → (cells : Cells) (turns : TurnList) → chosen (value v) cells turns ≡ move cells turns)
    → AlwaysSteps old new before after made (λ v cells turns. Some (used (meaning cells) cells (λ x. chosen x cells turns)))
yield_goes old new before after made meaning value chosen move yields goes same =
    yield_steps old new new before after made meaning value (λ v. chosen) (extends_same new.atoms) yields
    (goes_always new before after made move (λ v. chosen (value v)) goes same)

-- so are three numbers
pub begun_steps : (old one two three new : Evaluator) (before after : Side) (made : Step) (r s t : Cells → Result ℤ Fault) (a b c : Term)
    (from : ℤ → ℤ → ℤ → Cells → TurnList → Move) → Extends one.atoms two.atoms → Extends two.atoms three.atoms → Extends three.atoms new.atoms
    → YieldsNumber old one before.writes.items a r → YieldsNumber one two before.writes.items b s → YieldsNumber two three before.writes.items c t
    → AlwaysSteps three new before after made (λ v cells turns. Some (from (sum_value v a) (sum_value v b) (sum_value v c) cells turns))
    → AlwaysSteps old new before after made
    (λ v cells turns. Some (used (r cells) cells (λ a. used (s cells) cells (λ b. used (t cells) cells (λ c. from a b c cells turns)))))
begun_steps old one two three new before after made r s t a b c from first second third x y z next =
    let late = extends_then second third in
    yield_steps old one new before after made r (λ v. sum_value v a)
    (λ v a cells turns. used (s cells) cells (λ b. used (t cells) cells (λ c. from a b c cells turns))) (extends_then first late) x
    (yield_steps one two new before after made s (λ v. sum_value v b) (λ v b cells turns. used (t cells) cells (λ c. from (sum_value v a) b c cells turns)) late y
    (yield_steps two three new before after made t (λ v. sum_value v c) (λ v c cells turns. from (sum_value v a) (sum_value v b) c cells turns) third z next))

-- a truth value by the number that stands for it
pub truth_told : (b : Bool) (t f : ℤ) → f ≡ pos (bool_byte b) → t ≡ to_z w64 (of_z w64 f)
    → Some (held.Truth (not (is_same t (pos 0)))) ≡ Some (held.Truth b)
truth_told true t f e is = ap (λ t. Some (held.Truth (not (is_same t (pos 0))))) (is ∙ ap (λ f. to_z w64 (of_z w64 f)) e)
truth_told false t f e is = ap (λ t. Some (held.Truth (not (is_same t (pos 0))))) (is ∙ ap (λ f. to_z w64 (of_z w64 f)) e)

-- a value that is known is assigned to a slot that is known
pub assigned : {A : Type 0} (start : Cells) (v : Valuation) (old mid new : Evaluator) (before side after : Side) (made : Step) (resolved : Resolved) (location : Location)
    (cells : Cells) (places : Result ℕ Fault) (r : Result A Fault) (a : A) (value : A → Value)
    → Answers v old mid places (λ k. IsInside v location × (slot_of v location ≡ k)) → (Holds v mid.path → Answers v mid new r (λ x. a ≡ x))
    → (IsInside v location → cells_of start v side.writes.items ≡ slice_set cells (slot_of v location) (Some (value a)))
    → (IsInside v location → AreInside v side.writes.items) → side.turns ≡ before.turns → GoesTo v side after made (λ cells turns. go_on resolved cells turns)
    → Stepped start v old.own new.path before after made
    (Some (used places cells (λ k. used r cells (λ x. go_on resolved (slice_set cells k (Some (value x))) (turns_of v before.turns.items)))))
assigned start v old mid new before side after made resolved location cells places r a value first second put inside same goes =
    subst (λ turns. Stepped start v old.own new.path before after made
    (Some (used places cells (λ k. used r cells (λ x. go_on resolved (slice_set cells k (Some (value x))) turns))))) (ap (λ turns. turns_of v turns.items) same)
    (used_steps start v old mid new before after made places cells
    (λ k. used r cells (λ x. go_on resolved (slice_set cells k (Some (value x))) (turns_of v side.turns.items)))
    (λ k. IsInside v location × (slot_of v location ≡ k)) first
    (λ holds k at. known_steps start v mid new new before after made r cells
    (λ x. go_on resolved (slice_set cells k (Some (value x))) (turns_of v side.turns.items)) a (second holds)
    (λ holds. goes_stepped start v new.own new.path before after made side (λ cells turns. go_on resolved cells turns) _ goes holds (inside at.0)
    (ap (λ cells. go_on resolved cells (turns_of v side.turns.items)) (ap (λ k. slice_set cells k (Some (value a))) (sym at.1) ∙ sym (put at.0))))))

-- the item with a number
pub item_there : (items : List Jump) (z : ℤ) (place : ℕ) (jump : Jump) → z ≡ pos (place + 1) → slice_get items place ≡ Some jump
    → item_chosen items z ≡ Some jump
item_there items z place jump is there = ap (item_chosen items) is ∙ ap (λ n. item_chosen items (pos n)) (add-one place) ∙ there

pub item_none : (items : List Jump) (z : ℤ) (count : ℕ) → count ≡ length items → HasItem None count z → item_chosen items z ≡ None
item_none items (pos zero) count is has = refl
item_none items (negsuc n) count is has = refl
item_none items (pos (suc n)) count is (inl low) = absurd (omega (arith, ints, low))
item_none items (pos (suc n)) count is (inr high) = slice_get_past items n (omega (arith, ints, high, is))

-- the jump by a sign
pub sign_chosen : {A : Type 0} (z : ℤ) (a b c : A) → by_sign z a b c ≡ (if is_same z (pos 0) then b else (if is_below z (pos 0) then a else c))
sign_chosen (pos zero) a b c = refl
sign_chosen (pos (suc n)) a b c = grind (arith, nat_tests)
sign_chosen (negsuc n) a b c = refl

-- a slot is written, what a DO has left is set, and control moves from its last statement
pub advanced : (start : Cells) (v : Valuation) (own : Bool) (path : Path) (before written side after : Side) (made : Step) (variable : ℕ) (value : Value)
    (statements : List Resolved) (t d passes : ℕ) (step : ℤ) (left : Option Turn) (end : Resolved) (move : Cells → TurnList → Move) → slice_get statements t ≡ Some end
    → cells_of start v written.writes.items ≡ slice_set (cells_of start v before.writes.items) variable (Some value) → AreInside v written.writes.items
    → written.turns ≡ before.turns → side.writes ≡ written.writes → turns_of v side.turns.items ≡ slice_set (turns_of v written.turns.items) d left
    → ((cells : Cells) (turns : TurnList) → passing end d passes step cells turns ≡ move cells (slice_set turns d left)) → GoesTo v side after made move → Holds v path
    → Stepped start v own path before after made
    (Some (passing_at statements t d passes step (slice_set (cells_of start v before.writes.items) variable (Some value)) (turns_of v before.turns.items)))
advanced start v own path before written side after made variable value statements t d passes step left end move there put inside same kept set passed goes holds =
    let cells : cells_of start v side.writes.items ≡ slice_set (cells_of start v before.writes.items) variable (Some value) =
    ap (λ writes. cells_of start v writes.items) kept ∙ put in
    let turns : turns_of v side.turns.items ≡ slice_set (turns_of v before.turns.items) d left =
    set ∙ ap (λ turns. slice_set (turns_of v turns.items) d left) same in
    goes_stepped start v own path before after made side move _ goes holds (rw kept inside)
    (rw there (passed _ _ ∙ ap (move (slice_set (cells_of start v before.writes.items) variable (Some value))) (sym turns)
    ∙ ap (λ cells. move cells (turns_of v side.turns.items)) (sym cells)))

-- a DO begins with a step that is not 0
pub begun_some : (statements : List Resolved) (d variable t : ℕ) (a b c : ℤ) (cells : Cells) (turns : TurnList) → c ≢ pos 0
    → begun statements d variable t a b c cells turns
    ≡ passing_at statements t d (trip_count a b c) c (slice_set cells variable (Some (held.Number a))) turns
begun_some statements d variable t a b (pos zero) cells turns apart = absurd (apart refl)
begun_some statements d variable t a b (pos (suc n)) cells turns apart = refl
begun_some statements d variable t a b (negsuc n) cells turns apart = refl

-- the number that a slot holds, by what is read
pub whole_read : (v : Valuation) (old mid : Evaluator) (cell : Option Value) (value : Symbolic) (C : ℤ → Type 0)
    → ReadsCell v old mid cell value → (Holds v mid.path → Answers v mid mid (whole (content_of v value)) C) → Answers v old mid (whole cell) C
whole_read v old mid cell value C (inl read) next = answers_at v old mid mid whole (content_of v value) cell C read.0 (sym read.1) next
whole_read v old mid cell value C (inr read) next = subst (λ cell. Answers v old mid (whole cell) C) (sym read.1) read.0
