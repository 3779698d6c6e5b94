-- Code writes the registers of slots alone.
use Rattle.f77_code.proofs.Common.{◌≡◌, ◌∙◌, ap, arith, ℕ, subst, length, true, ◌+◌, List, ◌<◌, slice_get, ◌≤◌, inl, inr, ◌*◌, ◌⊎◌, MatchOption, ◌-◌}
use Rattle.f77_code.proofs.Common.{slice_get_within, Action, Condition, Variable, Resolved, Plan, do_rank, is_loop, onward, IsSlot, IsTerm, StandsForIncrement}
use Rattle.f77_code.proofs.Common.{IsTest, Comparing, IsOperation, StandsForStatement, Tests, comparing, giving, StandsForAssignment, AreSlots, IsInArray}
use Rattle.f77_code.proofs.Common.{IsWritten, WritesSlots, Operation, Next, When', Count, Do, IfTrue, SetElement, SetMatrix, Add, Continue, Goto, IfCompared}
use Rattle.f77_code.proofs.Common.{IfRelated, Load, Multiply, Return, Select, Set, Sign, Stop, Subtract, Trap, Term, Kind, Integer, Logical}
use Rattle.f77_actions.specs.declared.expression.Condition as condition
use Rattle.f77_actions.specs.declared.expression.Element as slots
use Rattle.f77_actions.specs.declared.action.Action as action
use Rattle.f77_code.specs.declared.instruction.Operation.{Move}
use Rattle.f77_code.proofs.Listed.{item_at, order}
use Rattle.f77_code.proofs.Reached.{counted_at}

module _ (plan : Plan) where
  slot_written : (kind : Kind) (slot to k : ℕ) → to ≡ slot → IsSlot plan kind slot → k ≡ to → k < plan.slots
  slot_written kind slot to k same is at = let below = is.0 in omega (arith, below, same, at)

  array_written : (kind : Kind) (first count start many k : ℕ) → start ≡ first → many ≡ count → AreSlots plan kind first count → IsInArray start many k → k < plan.slots
  array_written kind first count start many k one all are w =
      let there = are w.place (subst (λ n. w.place < n) all w.below) in
      let below = there.0 in
      omega (arith, below, one, w.is)

  giving_writes : (kind : Kind) (P : Term → Type 0) (slot k : ℕ) (operation : Operation)
      → MatchOption (giving operation) ⊥ (λ g. (g.to ≡ slot) × IsSlot plan kind slot × P g.term) → IsWritten operation k → k < plan.slots
  giving_writes kind P slot k (Set to term) h w = slot_written kind slot to k h.0 h.1 w
  giving_writes kind P slot k (Move to from) h w = slot_written kind slot to k h.0 h.1 w
  giving_writes kind P slot k (Add to left right) h w = slot_written kind slot to k h.0 h.1 w
  giving_writes kind P slot k (Subtract to left right) h w = slot_written kind slot to k h.0 h.1 w
  giving_writes kind P slot k (Multiply to left right) h w = slot_written kind slot to k h.0 h.1 w
  giving_writes kind P slot k (Load to first bound subscript) h w = slot_written kind slot to k h.0 h.1 w
  giving_writes kind P slot k _ h w = absurd h

  assigns_write : (kind : Kind) (P : Term → Type 0) (e : slots.Element) (k : ℕ) (operation : Operation) → StandsForAssignment plan kind P e operation
      → IsWritten operation k → k < plan.slots
  assigns_write kind P (Variable slot) k operation h w = giving_writes kind P slot k operation h w
  assigns_write kind P (slots.Vector' first bound p x) k (SetElement start many pair) h w = array_written kind first bound start many k h.0 h.1 h.2 w
  assigns_write kind P (slots.Vector' first bound p x) k _ h w = absurd h
  assigns_write kind P (slots.Matrix' first rows columns p x q y) k (SetMatrix start height width pair term) h w =
      array_written kind first (rows * columns) start (height * width) k h.0 (λ i. h.1 i * h.2 i) h.3 w
  assigns_write kind P (slots.Matrix' first rows columns p x q y) k _ h w = absurd h

  -- a test writes nothing
  comparing_writes : (P : Comparing → Type 0) (k : ℕ) (operation : Operation) → MatchOption (comparing operation) ⊥ P → IsWritten operation k → ⊥
  comparing_writes P k (IfRelated op there pair) h w = w
  comparing_writes P k (IfCompared op left right there) h w = w
  comparing_writes P k _ h w = h

  tests_write : (x : Condition) (there k : ℕ) (operation : Operation) → Tests plan x there operation → IsWritten operation k → ⊥
  tests_write x there k (IfTrue place term) h w = w
  tests_write (condition.Related op x y) there k operation h w =
      comparing_writes (λ c. (c.there ≡ there) × (op ≡ c.relation) × IsTerm plan x c.left × IsTerm plan y c.right) k operation h w
  tests_write _ there k _ h w = h

  operation_writes : (act : Action) (k : ℕ) (operation : Operation) → IsOperation plan act operation → IsWritten operation k → k < plan.slots
  operation_writes action.Declaration k Continue h w = absurd w
  operation_writes (action.AssignNumber e x) k operation h w = assigns_write Integer (IsTerm plan x) e k operation h w
  operation_writes (action.AssignTruth e x) k operation h w = assigns_write Logical (IsTest plan x) e k operation h w
  operation_writes (action.Goto jump) k (Goto there) h w = absurd w
  operation_writes (action.ComputedGoto x jumps) k (Select term places) h w = absurd w
  operation_writes (action.ArithmeticIf x a b c) k (Sign negative middle positive term) h w = absurd w
  operation_writes (action.LogicalIf' x p inner) k (When' term q operation) h w = operation_writes inner k operation h.1 w
  operation_writes (action.LogicalIf' x p (action.Goto jump)) k operation h w = absurd (tests_write x jump.target k operation h w)
  operation_writes action.Continue k Continue h w = absurd w
  operation_writes action.Return k Return h w = absurd w
  operation_writes action.Stop k Stop h w = absurd w
  operation_writes action.Trap k Trap h w = absurd w
  operation_writes _ k _ h w = absurd h

  stands_write : (statements : List Resolved) (i : ℕ) (r : Resolved) (act : Action) (k : ℕ) (operation : Operation) (next : ℕ)
      → StandsForStatement plan statements i r act operation next → IsWritten operation k → k < plan.slots
  stands_write statements i r (action.Branch x otherwise) k operation next h w = absurd (tests_write x (onward statements r.ends.items r.next) k operation h.0 w)
  stands_write statements i r (action.Loop slot x y z end) k (Do variable counter body parameters) next h w =
      slot_written Integer slot variable k h.variable h.slot w
  stands_write statements i r (action.Loop slot x y z end) k (Count variable counter body first last step) next h w =
      slot_written Integer slot variable k h.variable h.slot w
  stands_write statements i r (action.Loop slot x y z end) k _ next h w = absurd h
  stands_write statements i r act k operation next h w = operation_writes act k operation h.0 w

  increments_write : (statements : List Resolved) (d : ℕ) (act : Action) (k : ℕ) (operation : Operation) (next : ℕ)
      → StandsForIncrement plan statements d act operation next → is_loop act ≡ true → IsWritten operation k → k < plan.slots
  increments_write statements d (action.Loop slot x y z end) k (Next variable counter body) next h loops w = slot_written Integer slot variable k h.0 h.1 w
  increments_write statements d (action.Loop slot x y z end) k _ next h loops w = absurd h
  increments_write statements d _ k _ next h loops w = absurd (cc (loops))

pub writes_slots : WritesSlots
writes_slots plan statements code are j x is k w = by (order j (length statements))
  where
    by : (j < length statements) ⊎ (length statements ≤ j) → k < plan.slots
    by (inl h) =
        let r = item_at statements j h in stands_write plan statements j r.0 r.0.action k x.operation x.next (are.executed j r.0 x r.1 is) w
    by (inr h) =
        let within = slice_get_within code j x is in
        let d = counted_at statements (j - length statements) (omega (arith, within, are.count, h)) in
        let place : length statements + do_rank statements d.place ≡ j = omega (arith, d.ranked, h) in
        increments_write plan statements d.place d.resolved.action k x.operation x.next
        (are.incremented d.place d.resolved x d.at (ap (slice_get code) place ∙ is)) d.loop w
