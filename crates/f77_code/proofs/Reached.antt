-- The registers and the counters that code names are there.
use Rattle.f77_code.proofs.Common.{◌≡◌, ◌∙◌, ap, sym, arith, ℕ, refl, subst, length, true, ◌+◌, List, Some, ◌<◌, slice_get, false, [], suc, ◌∷◌, zero, Bool, ℤ}
use Rattle.f77_code.proofs.Common.{◌≤◌, None, Option, inl, inr, ◌*◌, take, nat_lt, ◌⊎◌, MatchOption, not, ◌-◌, ltb-false, lt-ltb, le-ltb, ◌&&◌, and_parts}
use Rattle.f77_code.proofs.Common.{and_from, same_Some, slice_get_within, Action, Condition, Variable, Number, Binary', Constant, Relation, Resolved, Plan}
use Rattle.f77_code.proofs.Common.{do_rank, is_loop, onward, IsSlot, IsTerm, StandsForIncrement, IsTest, Comparing, IsOperation, StandsForStatement, Tests}
use Rattle.f77_code.proofs.Common.{comparing, giving, AreCode, Beginning, StandsForAssignment, loop_count, BeginsDo, Giving, code_within, operation_within}
use Rattle.f77_code.proofs.Common.{are_ready, registers_for, term_within, IsConstant, ReadsElement, can_compile, condition_within, element_within, is_ready}
use Rattle.f77_code.proofs.Common.{number_within, Instruction, Operation, Next, When', Count, Do, IfTrue, SetElement, SetMatrix, Add, Continue, Goto}
use Rattle.f77_code.proofs.Common.{IfCompared, IfRelated, Load, Multiply, Return, Select, Set, Sign, Stop, Subtract, Trap, Term, Compared, Related', Register}
use Rattle.f77_code.proofs.Common.{Absolute', Add', Calculated', Connected', Difference, Element, Matrix', MatrixAt, Multiply', Negated', Not', Product}
use Rattle.f77_code.proofs.Common.{Subtract', Sum, TooLarge, Vector', ZeroPush', Kind, Integer, Logical}
use Rattle.std.specs.List.{list_all}
use Rattle.f77_actions.specs.declared.expression.Condition as condition
use Rattle.f77_actions.specs.declared.expression.Element as slots
use Rattle.f77_actions.specs.declared.expression.Number as number
use Rattle.f77_actions.specs.declared.action.Action as action
use Rattle.f77_code.specs.declared.instruction.Operation.{Move}
use Rattle.f77_code.proofs.Assembled.{all_ranked}
use Rattle.f77_code.proofs.Counters.{weight, more, rank_rises}
use Rattle.f77_code.proofs.Listed.{all_at, item_at, loop_is, one_if, order}

pub at_most : (n m : ℕ) → not (nat_lt n m) ≡ true → m ≤ n
at_most n m h = by (nat_lt n m) refl h
  where
    by : (b : Bool) → nat_lt n m ≡ b → not b ≡ true → m ≤ n
    by true e h = absurd (cc (h))
    by false e h = ltb-false n m e

no_more : (n m : ℕ) → m ≤ n → not (nat_lt n m) ≡ true
no_more n m h = ap not (le-ltb n m h)

module _ (plan : Plan) (n : ℕ) (room : n ≡ plan.slots + length plan.constants) where
  constant_there : (r : ℕ) (z : ℤ) → IsConstant plan r z → nat_lt r n ≡ true
  constant_there r z k = let below = slice_get_within plan.constants k.place z k.value in lt-ltb r n (omega (arith, k.behind, below, room))

  slot_there : (r k : ℕ) → r ≡ k → k < plan.slots → nat_lt r n ≡ true
  slot_there r k same below = lt-ltb r n (omega (arith, same, below, room))

  array_there : (start first count bound : ℕ) → start ≡ first → count ≡ bound → not (nat_lt plan.slots (first + bound)) ≡ true → not (nat_lt n (start + count)) ≡ true
  array_there start first count bound one many h = let most = at_most plan.slots (first + bound) h in no_more n (start + count) (omega (arith, one, many, most, room))

  matrix_there : (start first height rows width columns : ℕ) → start ≡ first → height ≡ rows → width ≡ columns
      → not (nat_lt plan.slots (first + rows * columns)) ≡ true → not (nat_lt n (start + height * width)) ≡ true
  matrix_there start first height rows width columns one high wide h =
      let most = at_most plan.slots (first + rows * columns) h in
      rw (one, high, wide) (no_more n (first + rows * columns) (omega (arith, most, room)))

  -- an INTEGER expression
  pub number_there : (x : Number) (t : Term) → IsTerm plan x t → number_within plan.slots x ≡ true → term_within n t ≡ true
  number_there (Constant z) (Register r) h w = constant_there r z h
  number_there number.TooLarge TooLarge h w = refl
  number_there (number.Element (Variable k)) (Register r) h w = slot_there r k h.0 h.1.0
  number_there (number.Element (slots.Vector' first bound p x)) (Element start count s) h w =
      let parts = and_parts _ _ w in and_from _ _ (array_there start first count bound h.0 h.1 parts.0) (number_there x (Register s) h.3 parts.1)
  number_there (number.Element (slots.Vector' first bound p x)) (Vector' start count q s) h w =
      let parts = and_parts _ _ w in and_from _ _ (array_there start first count bound h.0 h.1 parts.0) (number_there x s h.3 parts.1)
  number_there (number.Element (slots.Matrix' first rows columns p x q y)) (MatrixAt start height width row column) h w =
      let parts = and_parts _ _ w in
      let both = and_parts _ _ parts.1 in
      and_from _ _ (matrix_there start first height rows width columns h.0 h.1 h.2 parts.0)
      (and_from _ _ (number_there x (Register row) h.4 both.0) (number_there y (Register column) h.5 both.1))
  number_there (number.Element (slots.Matrix' first rows columns p x q y)) (Matrix' start height width o row column) h w =
      let parts = and_parts _ _ w in
      let both = and_parts _ _ parts.1 in
      and_from _ _ (matrix_there start first height rows width columns h.0 h.1 h.2 parts.0)
      (and_from _ _ (number_there x row h.4 both.0) (number_there y column h.5 both.1))
  number_there (number.Negated' p x) (Negated' q s) h w = number_there x s h w
  number_there (number.Absolute' p x) (Absolute' q s) h w = number_there x s h w
  number_there (number.ZeroPush' p x) (ZeroPush' q s) h w = number_there x s h w
  number_there (Binary' op p x q y) (Sum l r) h w =
      let parts = and_parts _ _ w in and_from _ _ (number_there x (Register l) h.1 parts.0) (number_there y (Register r) h.2 parts.1)
  number_there (Binary' op p x q y) (Difference l r) h w =
      let parts = and_parts _ _ w in and_from _ _ (number_there x (Register l) h.1 parts.0) (number_there y (Register r) h.2 parts.1)
  number_there (Binary' op p x q y) (Product l r) h w =
      let parts = and_parts _ _ w in and_from _ _ (number_there x (Register l) h.1 parts.0) (number_there y (Register r) h.2 parts.1)
  number_there (Binary' op p x q y) (Add' o l r) h w =
      let parts = and_parts _ _ w in and_from _ _ (number_there x l h.1 parts.0) (number_there y r h.2 parts.1)
  number_there (Binary' op p x q y) (Subtract' o l r) h w =
      let parts = and_parts _ _ w in and_from _ _ (number_there x l h.1 parts.0) (number_there y r h.2 parts.1)
  number_there (Binary' op p x q y) (Multiply' o l r) h w =
      let parts = and_parts _ _ w in and_from _ _ (number_there x l h.1 parts.0) (number_there y r h.2 parts.1)
  number_there (Binary' op p x q y) (Calculated' operation o l r) h w =
      let parts = and_parts _ _ w in and_from _ _ (number_there x l h.1 parts.0) (number_there y r h.2 parts.1)
  number_there _ _ h w = absurd h

  -- a variable or an array element of any kind
  pub element_there : (kind : Kind) (e : slots.Element) (t : Term) → ReadsElement plan kind e t → element_within plan.slots e ≡ true → term_within n t ≡ true
  element_there kind (Variable k) (Register r) h w = slot_there r k h.0 h.1.0
  element_there kind (slots.Vector' first bound p x) (Element start count s) h w =
      let parts = and_parts _ _ w in and_from _ _ (array_there start first count bound h.0 h.1 parts.0) (number_there x (Register s) h.3 parts.1)
  element_there kind (slots.Vector' first bound p x) (Vector' start count q s) h w =
      let parts = and_parts _ _ w in and_from _ _ (array_there start first count bound h.0 h.1 parts.0) (number_there x s h.3 parts.1)
  element_there kind (slots.Matrix' first rows columns p x q y) (MatrixAt start height width row column) h w =
      let parts = and_parts _ _ w in
      let both = and_parts _ _ parts.1 in
      and_from _ _ (matrix_there start first height rows width columns h.0 h.1 h.2 parts.0)
      (and_from _ _ (number_there x (Register row) h.4 both.0) (number_there y (Register column) h.5 both.1))
  element_there kind (slots.Matrix' first rows columns p x q y) (Matrix' start height width o row column) h w =
      let parts = and_parts _ _ w in
      let both = and_parts _ _ parts.1 in
      and_from _ _ (matrix_there start first height rows width columns h.0 h.1 h.2 parts.0)
      (and_from _ _ (number_there x row h.4 both.0) (number_there y column h.5 both.1))
  element_there kind _ _ h w = absurd h

  -- a LOGICAL expression
  pub test_there : (x : Condition) (t : Term) → IsTest plan x t → condition_within plan.slots x ≡ true → term_within n t ≡ true
  test_there (condition.Constant b) (Register r) h w = constant_there r _ h
  test_there (condition.Element e) t h w = element_there Logical e t h w
  test_there (condition.Not' p x) (Not' q s) h w = test_there x s h w
  test_there (condition.Related op x y) (Compared relation l r) h w =
      let parts = and_parts _ _ w in and_from _ _ (number_there x (Register l) h.1 parts.0) (number_there y (Register r) h.2 parts.1)
  test_there (condition.Related op x y) (Related' relation p l r) h w =
      let parts = and_parts _ _ w in and_from _ _ (number_there x l h.1 parts.0) (number_there y r h.2 parts.1)
  test_there (condition.Connected' op p x q y) (Connected' connective o l r) h w =
      let parts = and_parts _ _ w in and_from _ _ (test_there x l h.1 parts.0) (test_there y r h.2 parts.1)
  test_there _ _ h w = absurd h

  -- what an operation gives or compares
  giving_there : (loops : ℕ) (operation : Operation) (g : Giving) → giving operation ≡ Some g → nat_lt g.to n ≡ true → term_within n g.term ≡ true
      → operation_within n loops operation ≡ true
  giving_there loops (Set to term) g e a b =
      let same = same_Some _ _ e in and_from _ _ (subst (λ g. nat_lt g.to n ≡ true) (sym same) a) (subst (λ g. term_within n g.term ≡ true) (sym same) b)
  giving_there loops (Move to from) g e a b =
      let same = same_Some _ _ e in and_from _ _ (subst (λ g. nat_lt g.to n ≡ true) (sym same) a) (subst (λ g. term_within n g.term ≡ true) (sym same) b)
  giving_there loops (Add to left right) g e a b =
      let same = same_Some _ _ e in and_from _ _ (subst (λ g. nat_lt g.to n ≡ true) (sym same) a) (subst (λ g. term_within n g.term ≡ true) (sym same) b)
  giving_there loops (Subtract to left right) g e a b =
      let same = same_Some _ _ e in and_from _ _ (subst (λ g. nat_lt g.to n ≡ true) (sym same) a) (subst (λ g. term_within n g.term ≡ true) (sym same) b)
  giving_there loops (Multiply to left right) g e a b =
      let same = same_Some _ _ e in and_from _ _ (subst (λ g. nat_lt g.to n ≡ true) (sym same) a) (subst (λ g. term_within n g.term ≡ true) (sym same) b)
  giving_there loops (Load to first bound subscript) g e a b =
      let same = same_Some _ _ e in and_from _ _ (subst (λ g. nat_lt g.to n ≡ true) (sym same) a) (subst (λ g. term_within n g.term ≡ true) (sym same) b)
  giving_there loops _ g e a b = absurd (cc (e))

  comparing_there : (loops : ℕ) (operation : Operation) (c : Comparing) → comparing operation ≡ Some c → term_within n c.left ≡ true
      → term_within n c.right ≡ true → operation_within n loops operation ≡ true
  comparing_there loops (IfRelated op there pair) c e a b =
      let same = same_Some _ _ e in and_from _ _ (subst (λ c. term_within n c.left ≡ true) (sym same) a) (subst (λ c. term_within n c.right ≡ true) (sym same) b)
  comparing_there loops (IfCompared op left right there) c e a b =
      let same = same_Some _ _ e in and_from _ _ (subst (λ c. term_within n c.left ≡ true) (sym same) a) (subst (λ c. term_within n c.right ≡ true) (sym same) b)
  comparing_there loops _ c e a b = absurd (cc (e))

  -- an assignment
  given_there : (loops : ℕ) (kind : Kind) (P : Term → Type 0) (k : ℕ) → ((t : Term) → P t → term_within n t ≡ true) → (operation : Operation)
      → (o : Option Giving) → giving operation ≡ o → MatchOption o ⊥ (λ g. (g.to ≡ k) × IsSlot plan kind k × P g.term) → operation_within n loops operation ≡ true
  given_there loops kind P k each operation None e h = absurd h
  given_there loops kind P k each operation (Some g) e h = giving_there loops operation g e (slot_there g.to k h.0 h.1.0) (each g.term h.2)

  assigns_there : (loops : ℕ) (kind : Kind) (P : Term → Type 0) → ((t : Term) → P t → term_within n t ≡ true) → (e : slots.Element) (operation : Operation)
      → StandsForAssignment plan kind P e operation → element_within plan.slots e ≡ true → operation_within n loops operation ≡ true
  assigns_there loops kind P each (Variable k) operation h w = given_there loops kind P k each operation (giving operation) refl h
  assigns_there loops kind P each (slots.Vector' first bound p x) (SetElement start count pair) h w =
      let parts = and_parts _ _ w in
      and_from _ _ (array_there start first count bound h.0 h.1 parts.0)
      (and_from _ _ (number_there x pair.value.left h.3 parts.1) (each pair.value.right h.4))
  assigns_there loops kind P each (slots.Vector' first bound p x) _ h w = absurd h
  assigns_there loops kind P each (slots.Matrix' first rows columns p x q y) (SetMatrix start height width pair term) h w =
      let parts = and_parts _ _ w in
      let both = and_parts _ _ parts.1 in
      and_from _ _ (matrix_there start first height rows width columns h.0 h.1 h.2 parts.0)
      (and_from _ _ (number_there x pair.value.left h.4 both.0) (and_from _ _ (number_there y pair.value.right h.5 both.1) (each term.value h.6)))
  assigns_there loops kind P each (slots.Matrix' first rows columns p x q y) _ h w = absurd h

  -- a test
  compared_there : (loops : ℕ) (op : Relation) (x y : Number) (there : ℕ) → number_within plan.slots x ≡ true → number_within plan.slots y ≡ true
      → (operation : Operation) (o : Option Comparing) → comparing operation ≡ o
      → MatchOption o ⊥ (λ c. (c.there ≡ there) × (op ≡ c.relation) × IsTerm plan x c.left × IsTerm plan y c.right) → operation_within n loops operation ≡ true
  compared_there loops op x y there first second operation None e h = absurd h
  compared_there loops op x y there first second operation (Some c) e h =
      comparing_there loops operation c e (number_there x c.left h.2 first) (number_there y c.right h.3 second)

  tests_there : (loops : ℕ) (x : Condition) (there : ℕ) (operation : Operation) → Tests plan x there operation → condition_within plan.slots x ≡ true
      → operation_within n loops operation ≡ true
  tests_there loops x there (IfTrue place term) h w = test_there x term.value h.1 w
  tests_there loops (condition.Related op x y) there operation h w =
      let parts = and_parts _ _ w in compared_there loops op x y there parts.0 parts.1 operation (comparing operation) refl h
  tests_there loops _ there _ h w = absurd h

  -- what an action does
  operation_there : (loops : ℕ) (act : Action) (operation : Operation) → IsOperation plan act operation → can_compile plan.slots act ≡ true
      → operation_within n loops operation ≡ true
  operation_there loops action.Declaration Continue h w = refl
  operation_there loops (action.AssignNumber e x) operation h w =
      let parts = and_parts _ _ w in assigns_there loops Integer (IsTerm plan x) (λ t s. number_there x t s parts.1) e operation h parts.0
  operation_there loops (action.AssignTruth e x) operation h w =
      let parts = and_parts _ _ w in assigns_there loops Logical (IsTest plan x) (λ t s. test_there x t s parts.1) e operation h parts.0
  operation_there loops (action.Goto jump) (Goto there) h w = refl
  operation_there loops (action.ComputedGoto x jumps) (Select term places) h w = number_there x term.value h.0 (and_parts _ _ w).0
  operation_there loops (action.ArithmeticIf x a b c) (Sign negative middle positive term) h w = number_there x term.value h.0 (and_parts _ _ w).0
  operation_there loops (action.LogicalIf' x p inner) (When' term q operation) h w =
      let parts = and_parts _ _ w in and_from _ _ (test_there x term.value h.0 parts.0) (operation_there loops inner operation h.1 parts.1)
  operation_there loops (action.LogicalIf' x p (action.Goto jump)) operation h w = tests_there loops x jump.target operation h (and_parts _ _ w).0
  operation_there loops action.Continue Continue h w = refl
  operation_there loops action.Return Return h w = refl
  operation_there loops action.Stop Stop h w = refl
  operation_there loops action.Trap Trap h w = refl
  operation_there loops _ _ h w = absurd h

  begins_there : (statements : List Resolved) (i slot : ℕ) (x y z : Number) (end next : ℕ) (begun : Beginning)
      → BeginsDo plan statements i slot x y z end next begun → is_ready plan.slots (length statements) (action.Loop slot x y z end) ≡ true
      → do_rank statements i < loop_count statements
      → (nat_lt begun.variable n && (nat_lt begun.counter (loop_count statements)
      && (term_within n begun.parameters.first && (term_within n begun.parameters.last && term_within n begun.parameters.step)))) ≡ true
  begins_there statements i slot x y z end next begun h w below =
      let rest = (and_parts _ _ w).1 in
      let first = and_parts _ _ rest in
      let second = and_parts _ _ first.1 in
      let third = and_parts _ _ second.1 in
      let terms = h.parameters in
      and_from _ _ (slot_there begun.variable slot h.variable h.slot.0)
      (and_from _ _ (lt-ltb begun.counter (loop_count statements) (omega (arith, below, h.counter)))
      (and_from _ _ (number_there x begun.parameters.first terms.first first.0)
      (and_from _ _ (number_there y begun.parameters.last terms.last second.0) (number_there z begun.parameters.step terms.step third.0))))

  stands_there : (statements : List Resolved) (i : ℕ) (r : Resolved) (act : Action) (operation : Operation) (next : ℕ)
      → StandsForStatement plan statements i r act operation next → is_ready plan.slots (length statements) act ≡ true
      → (is_loop act ≡ true → do_rank statements i < loop_count statements) → operation_within n (loop_count statements) operation ≡ true
  stands_there statements i r (action.Branch x otherwise) operation next h w counted =
      tests_there (loop_count statements) x (onward statements r.ends.items r.next) operation h.0 (and_parts _ _ w).0
  stands_there statements i r (action.Loop slot x y z end) (Do variable counter body parameters) next h w counted =
      begins_there statements i slot x y z end next (record { variable = variable; counter = counter; body = body; parameters = parameters.value }) h w (counted refl)
  stands_there statements i r (action.Loop slot x y z end) (Count variable counter body first last step) next h w counted =
      begins_there statements i slot x y z end next
      (record { variable = variable; counter = counter; body = body; parameters = registers_for first last step }) h w (counted refl)
  stands_there statements i r (action.Loop slot x y z end) _ next h w counted = absurd h
  stands_there statements i r act operation next h w counted = operation_there (loop_count statements) act operation h.0 w

  increments_there : (statements : List Resolved) (d : ℕ) (act : Action) (operation : Operation) (next : ℕ)
      → StandsForIncrement plan statements d act operation next → is_loop act ≡ true → do_rank statements d < loop_count statements
      → operation_within n (loop_count statements) operation ≡ true
  increments_there statements d (action.Loop slot x y z end) (Next variable counter body) next h loops below =
      and_from _ _ (slot_there variable slot h.0 h.1.0) (lt-ltb counter (loop_count statements) (omega (arith, below, h.2)))
  increments_there statements d (action.Loop slot x y z end) _ next h loops below = absurd h
  increments_there statements d _ _ next h loops below = absurd (cc (loops))

-- the DO of a counter
pub record Counted (statements : List Resolved) (k : ℕ) : Type 0 where
  pub place : ℕ
  pub resolved : Resolved
  pub at : slice_get statements place ≡ Some resolved
  pub loop : is_loop resolved.action ≡ true
  pub ranked : do_rank statements place ≡ k

pub counted_at : (statements : List Resolved) (k : ℕ) → k < loop_count statements → Counted statements k
counted_at [] k h = absurd (omega (arith, h))
counted_at (r ∷ rs) k h = by (is_loop r.action) refl (counted_at rs) k h
  where
    by : (b : Bool) → is_loop r.action ≡ b → ((k : ℕ) → k < loop_count rs → Counted rs k) → (k : ℕ) → k < loop_count (r ∷ rs) → Counted (r ∷ rs) k
    by true e rest zero h = record { place = 0; resolved = r; at = refl; loop = e; ranked = refl }
    by true e rest (suc k) h =
        let one : weight r ≡ 1 = ap one_if e in
        let all = more r rs in
        let w = rest k (omega (arith, h, one, all)) in
        let before = more r (take w.place rs) in
        record { place = suc w.place; resolved = w.resolved; at = w.at; loop = w.loop; ranked = omega (arith, one, before, w.ranked) }
    by false e rest k h =
        let none : weight r ≡ 0 = ap one_if e in
        let all = more r rs in
        let w = rest k (omega (arith, h, none, all)) in
        let before = more r (take w.place rs) in
        record { place = suc w.place; resolved = w.resolved; at = w.at; loop = w.loop; ranked = omega (arith, none, before, w.ranked) }

all_from_each : {A : Type 0} (test : A → Bool) (xs : List A) → ((i : ℕ) (x : A) → slice_get xs i ≡ Some x → test x ≡ true) → list_all test xs ≡ true
all_from_each test [] each = refl
all_from_each test (x ∷ xs) each = rw (each 0 x refl) (all_from_each test xs (λ i. each (suc i)))

counted_below : (statements : List Resolved) (d : ℕ) (r : Resolved) → slice_get statements d ≡ Some r → is_loop r.action ≡ true
    → do_rank statements d < loop_count statements
counted_below statements d r at loops =
    subst (λ k. do_rank statements d < k) (all_ranked statements)
    (rank_rises statements d (length statements) (slice_get_within statements d r at) (loop_is statements d r at ∙ loops))

-- the registers and the counters that the code of a program names are there
pub code_there : (plan : Plan) (statements : List Resolved) (code : List Instruction) → AreCode plan statements code → are_ready plan.slots statements ≡ true
    → code_within (plan.slots + length plan.constants) (loop_count statements) code ≡ true
code_there plan statements code are ready = all_from_each _ code (λ j x is. by j x is (order j (length statements)))
  where
    executed : (j : ℕ) (x : Instruction) (r : Resolved) → slice_get code j ≡ Some x → slice_get statements j ≡ Some r
        → operation_within (plan.slots + length plan.constants) (loop_count statements) x.operation ≡ true
    executed j x r is at =
        stands_there plan (plan.slots + length plan.constants) refl statements j r r.action x.operation x.next (are.executed j r x at is)
        (all_at (λ r. is_ready plan.slots (length statements) r.action) statements j r ready at) (counted_below statements j r at)

    followed : (j : ℕ) (x : Instruction) → slice_get code j ≡ Some x → Counted statements (j - length statements) → length statements ≤ j
        → operation_within (plan.slots + length plan.constants) (loop_count statements) x.operation ≡ true
    followed j x is w h =
        let place : length statements + do_rank statements w.place ≡ j = omega (arith, w.ranked, h) in
        increments_there plan (plan.slots + length plan.constants) refl statements w.place w.resolved.action x.operation x.next
        (are.incremented w.place w.resolved x w.at (ap (slice_get code) place ∙ is)) w.loop (counted_below statements w.place w.resolved w.at w.loop)

    by : (j : ℕ) (x : Instruction) → slice_get code j ≡ Some x → (j < length statements) ⊎ (length statements ≤ j)
        → operation_within (plan.slots + length plan.constants) (loop_count statements) x.operation ≡ true
    by j x is (inl h) = let w = item_at statements j h in executed j x w.0 is w.1
    by j x is (inr h) =
        let within = slice_get_within code j x is in
        followed j x is (counted_at statements (j - length statements) (omega (arith, within, are.count, h))) h
