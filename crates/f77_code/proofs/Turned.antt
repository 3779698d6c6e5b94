-- Two codes of one program do the same to counters and to the registers of slots.
use Rattle.f77_code.proofs.Common.{◌≡◌, ◌∙◌, ap, sym, arith, ℕ, refl, length, true, ◌+◌, List, Some, ◌<◌, slice_get, false, suc, zero, Bool, ℤ, ◌≤◌, pos, None}
use Rattle.f77_code.proofs.Common.{Ok, Option, Result, Err, inl, inr, slice_set, if◌then◌else◌, negsuc, ◌⊎◌, MatchOption, ◌-◌, unwrap_or, ◌+ℤ◌, ◌==◌, eqb-true}
use Rattle.f77_code.proofs.Common.{slice_get_within, option_map_or, coded, is_same, in_range, trip_count, given, whole, Action, Condition, Variable, Number}
use Rattle.f77_code.proofs.Common.{Fault, Undefined, Resolved, point, Plan, Point, do_rank, is_loop, onward, ran, term_value, register, Cells, HoldsRegisters}
use Rattle.f77_code.proofs.Common.{IsSlot, one, IsTerm, StandsForIncrement, IsTest, passed, Comparing, IsOperation, StandsForStatement, Tests, comparing}
use Rattle.f77_code.proofs.Common.{giving, AreCode, Beginning, StandsForAssignment, branch, by_sign, held_in, item_chosen, one_less, put_in_register, read_as}
use Rattle.f77_code.proofs.Common.{BeginsDo, Giving, begun_in_code, put_at, used_in_code, decoded, incremented_in_code, registers_for, begun_with, decoded_at}
use Rattle.f77_code.proofs.Common.{Turn, Instruction, Operation, Next, When', Count, Do, IfTrue, SetElement, SetMatrix, Add, Continue, Goto, IfCompared}
use Rattle.f77_code.proofs.Common.{IfRelated, Load, Multiply, Return, Select, Set, Sign, Stop, Subtract, Trap, Term, Kind, Integer, Logical}
use Rattle.std.specs.Prelude.{⊤}
use Rattle.f77_actions.specs.declared.action.Action as action
use Rattle.f77_actions.specs.declared.expression.Condition as condition
use Rattle.f77_actions.specs.declared.expression.Element as slots
use Rattle.f77_code.specs.declared.instruction.Operation.{Move}
use Rattle.f77_code.proofs.Listed.{item_at, order}
use Rattle.f77_code.proofs.Reached.{counted_at}
use Rattle.f77_code.proofs.SameValue.{same_term}

-- an operation that changes no counter
abbrev KeepsTurns : Operation → Type 0
KeepsTurns (Do variable counter body parameters) = ⊥
KeepsTurns (Count variable counter body first last step) = ⊥
KeepsTurns (Next variable counter body) = ⊥
KeepsTurns (When' term p inner) = KeepsTurns inner
KeepsTurns _ = ⊤

module _ (next : ℕ) (registers : List ℤ) (turns : List Turn) where
  used_turns : {A : Type 0} (r : Result A Fault) (f : A → Point) → ((x : A) → (f x).turns ≡ turns) → (used_in_code r registers turns f).turns ≡ turns
  used_turns (Ok x) f each = each x
  used_turns (Err fault) f each = refl

  put_turns : (to : ℕ) (r : Result ℤ Fault) → (put_in_register to r next registers turns).turns ≡ turns
  put_turns to (Ok z) = refl
  put_turns to (Err fault) = refl

  store_turns : (first : ℕ) (place : Result ℕ Fault) (r : Result ℤ Fault) → (put_at first place r next registers turns).turns ≡ turns
  store_turns first (Ok k) r = put_turns (first + k) r
  store_turns first (Err fault) r = refl

  branch_turns : (there : ℕ) (r : Result ℤ Fault) → (branch r there next registers turns).turns ≡ turns
  branch_turns there (Ok z) = refl
  branch_turns there (Err fault) = refl

  when_turns : (b : Bool) (p : Point) → p.turns ≡ turns → (if b then point next registers turns else p).turns ≡ turns
  when_turns true p e = refl
  when_turns false p e = e

  ran_turns : (operation : Operation) → KeepsTurns operation → (ran operation next registers turns).turns ≡ turns
  ran_turns (Set to term) h = put_turns to _
  ran_turns (SetElement first bound pair) h = store_turns first _ _
  ran_turns (SetMatrix first rows columns pair term) h = store_turns first _ _
  ran_turns (IfTrue there term) h = branch_turns there _
  ran_turns (IfRelated op there pair) h = branch_turns there _
  ran_turns (IfCompared op left right there) h = branch_turns there _
  ran_turns (Do variable counter body parameters) h = absurd h
  ran_turns (Count variable counter body first last step) h = absurd h
  ran_turns (Next variable counter body) h = absurd h
  ran_turns (Sign negative middle positive term) h =
      used_turns (term_value registers term.value) (λ z. point (by_sign z negative middle positive) registers turns) (λ z. refl)
  ran_turns (Select term places) h =
      used_turns (term_value registers term.value) (λ z. point (unwrap_or (item_chosen places.items z) next) registers turns) (λ z. refl)
  ran_turns (When' term p inner) h =
      used_turns (term_value registers term.value) (λ z. if is_same z (pos 0) then point next registers turns else ran inner next registers turns)
      (λ z. when_turns (is_same z (pos 0)) (ran inner next registers turns) (ran_turns inner h))
  ran_turns Continue h = refl
  ran_turns (Goto there) h = refl
  ran_turns Return h = refl
  ran_turns Stop h = refl
  ran_turns Trap h = refl
  ran_turns (Move to from) h = put_turns to _
  ran_turns (Add to left right) h = put_turns to _
  ran_turns (Subtract to left right) h = put_turns to _
  ran_turns (Multiply to left right) h = put_turns to _
  ran_turns (Load to first bound subscript) h = put_turns to _

-- operations that give or compare change none
giving_keeps : (P : Giving → Type 0) (operation : Operation) → MatchOption (giving operation) ⊥ P → KeepsTurns operation
giving_keeps P (Do variable counter body parameters) h = absurd h
giving_keeps P (Count variable counter body first last step) h = absurd h
giving_keeps P (Next variable counter body) h = absurd h
giving_keeps P (When' term p inner) h = absurd h
giving_keeps P _ h = tt

comparing_keeps : (P : Comparing → Type 0) (operation : Operation) → MatchOption (comparing operation) ⊥ P → KeepsTurns operation
comparing_keeps P (Do variable counter body parameters) h = absurd h
comparing_keeps P (Count variable counter body first last step) h = absurd h
comparing_keeps P (Next variable counter body) h = absurd h
comparing_keeps P (When' term p inner) h = absurd h
comparing_keeps P _ h = tt

module _ (plan : Plan) where
  assigns_keep : (kind : Kind) (P : Term → Type 0) (e : slots.Element) (operation : Operation) → StandsForAssignment plan kind P e operation → KeepsTurns operation
  assigns_keep kind P (Variable slot) operation h = giving_keeps (λ g. (g.to ≡ slot) × IsSlot plan kind slot × P g.term) operation h
  assigns_keep kind P (slots.Vector' first bound p x) (SetElement start count pair) h = tt
  assigns_keep kind P (slots.Vector' first bound p x) _ h = absurd h
  assigns_keep kind P (slots.Matrix' first rows columns p x q y) (SetMatrix start height width pair term) h = tt
  assigns_keep kind P (slots.Matrix' first rows columns p x q y) _ h = absurd h

  tests_keep : (x : Condition) (there : ℕ) (operation : Operation) → Tests plan x there operation → KeepsTurns operation
  tests_keep x there (IfTrue place term) h = tt
  tests_keep (condition.Related op x y) there operation h =
      comparing_keeps (λ c. (c.there ≡ there) × (op ≡ c.relation) × IsTerm plan x c.left × IsTerm plan y c.right) operation h
  tests_keep _ there _ h = absurd h

  operation_keeps : (act : Action) (operation : Operation) → IsOperation plan act operation → KeepsTurns operation
  operation_keeps action.Declaration Continue h = tt
  operation_keeps (action.AssignNumber e x) operation h = assigns_keep Integer (IsTerm plan x) e operation h
  operation_keeps (action.AssignTruth e x) operation h = assigns_keep Logical (IsTest plan x) e operation h
  operation_keeps (action.Goto jump) (Goto there) h = tt
  operation_keeps (action.ComputedGoto x jumps) (Select term places) h = tt
  operation_keeps (action.ArithmeticIf x a b c) (Sign negative middle positive term) h = tt
  operation_keeps (action.LogicalIf' x p inner) (When' term q operation) h = operation_keeps inner operation h.1
  operation_keeps (action.LogicalIf' x p (action.Goto jump)) operation h = tests_keep x jump.target operation h
  operation_keeps action.Continue Continue h = tt
  operation_keeps action.Return Return h = tt
  operation_keeps action.Stop Stop h = tt
  operation_keeps action.Trap Trap h = tt
  operation_keeps _ _ h = absurd h

-- what DOs do to counters rests on their counters and their parameters alone
module _ (turns : List Turn) (counter variable body next other round away : ℕ) where
  passed_turns : (passes : ℕ) (step : ℤ) (registers others : List ℤ)
      → (passed counter round away passes step others turns).turns ≡ (passed counter body next passes step registers turns).turns
  passed_turns zero step registers others = refl
  passed_turns (suc k) step registers others = refl

  module _ (registers others : List ℤ) where
    begun_turns : (a b c : ℤ)
        → (begun_in_code other counter round away a b c others turns).turns ≡ (begun_in_code variable counter body next a b c registers turns).turns
    begun_turns a b (pos zero) = refl
    begun_turns a b (pos (suc m)) = passed_turns (trip_count a b (pos (suc m))) (pos (suc m)) (slice_set registers variable a) (slice_set others other a)
    begun_turns a b (negsuc m) = passed_turns (trip_count a b (negsuc m)) (negsuc m) (slice_set registers variable a) (slice_set others other a)

    begins_turns : (a b c : Result ℤ Fault)
        → (begun_with other counter round away a b c others turns).turns ≡ (begun_with variable counter body next a b c registers turns).turns
    begins_turns (Err fault) b c = refl
    begins_turns (Ok a) (Err fault) c = refl
    begins_turns (Ok a) (Ok b) (Err fault) = refl
    begins_turns (Ok a) (Ok b) (Ok c) = begun_turns a b c

    summed_turns : (turn : Turn) (r : Result ℤ Fault)
        → (used_in_code r others turns (λ z. passed counter round away (one_less turn.passes) turn.step (slice_set others other z) turns)).turns
        ≡ (used_in_code r registers turns (λ z. passed counter body next (one_less turn.passes) turn.step (slice_set registers variable z) turns)).turns
    summed_turns turn (Err fault) = refl
    summed_turns turn (Ok z) = passed_turns (one_less turn.passes) turn.step (slice_set registers variable z) (slice_set others other z)

    counted_turns : (o : Option Turn) → register others other ≡ register registers variable
        → (option_map_or (λ turn. incremented_in_code other counter round away turn others turns) o (point away others turns)).turns
        ≡ (option_map_or (λ turn. incremented_in_code variable counter body next turn registers turns) o (point next registers turns)).turns
    counted_turns None e = refl
    counted_turns (Some turn) e =
        ap (λ r. (used_in_code (given r (λ z. in_range (z +ℤ turn.step))) others turns
        (λ z. passed counter round away (one_less turn.passes) turn.step (slice_set others other z) turns)).turns) e
        ∙ summed_turns turn (given (register registers variable) (λ z. in_range (z +ℤ turn.step)))

-- two plans whose registers hold the same slots
module _ (statements : List Resolved) (plan twin : Plan) (registers others : List ℤ) (cells : Cells) (turns : List Turn) (holds : HoldsRegisters plan registers cells)
    (also : HoldsRegisters twin others cells) where
  do_turns : (i slot : ℕ) (x y z : Number) (end next away : ℕ) (begun twice : Beginning) → BeginsDo plan statements i slot x y z end next begun
      → BeginsDo twin statements i slot x y z end away twice
      → (begun_with twice.variable twice.counter twice.body away (term_value others twice.parameters.first) (term_value others twice.parameters.last)
      (term_value others twice.parameters.step) others turns).turns
      ≡ (begun_with begun.variable begun.counter begun.body next (term_value registers begun.parameters.first) (term_value registers begun.parameters.last)
      (term_value registers begun.parameters.step) registers turns).turns
  do_turns i slot x y z end next away begun twice h k =
      let mine = h.parameters in
      let theirs = k.parameters in
      (λ j. (begun_with twice.variable ((k.counter ∙ sym h.counter) j) twice.body away
      ((same_term twin others cells also x twice.parameters.first theirs.first ∙ sym (same_term plan registers cells holds x begun.parameters.first mine.first)) j)
      ((same_term twin others cells also y twice.parameters.last theirs.last ∙ sym (same_term plan registers cells holds y begun.parameters.last mine.last)) j)
      ((same_term twin others cells also z twice.parameters.step theirs.step ∙ sym (same_term plan registers cells holds z begun.parameters.step mine.step)) j)
      others turns).turns)
      ∙ begins_turns turns begun.counter begun.variable begun.body next twice.variable twice.body away registers others
      (term_value registers begun.parameters.first) (term_value registers begun.parameters.last) (term_value registers begun.parameters.step)

  loop_turns : (i : ℕ) (r : Resolved) (slot : ℕ) (x y z : Number) (end next away : ℕ) (o q : Operation)
      → StandsForStatement plan statements i r (action.Loop slot x y z end) o next → StandsForStatement twin statements i r (action.Loop slot x y z end) q away
      → (ran q away others turns).turns ≡ (ran o next registers turns).turns
  loop_turns i r slot x y z end next away (Do variable counter body parameters) (Do other count round terms) h k =
      do_turns i slot x y z end next away (record { variable = variable; counter = counter; body = body; parameters = parameters.value })
      (record { variable = other; counter = count; body = round; parameters = terms.value }) h k
  loop_turns i r slot x y z end next away (Do variable counter body parameters) (Count other count round a b c) h k =
      do_turns i slot x y z end next away (record { variable = variable; counter = counter; body = body; parameters = parameters.value })
      (record { variable = other; counter = count; body = round; parameters = registers_for a b c }) h k
  loop_turns i r slot x y z end next away (Count variable counter body a b c) (Do other count round terms) h k =
      do_turns i slot x y z end next away (record { variable = variable; counter = counter; body = body; parameters = registers_for a b c })
      (record { variable = other; counter = count; body = round; parameters = terms.value }) h k
  loop_turns i r slot x y z end next away (Count variable counter body a b c) (Count other count round d e f) h k =
      do_turns i slot x y z end next away (record { variable = variable; counter = counter; body = body; parameters = registers_for a b c })
      (record { variable = other; counter = count; body = round; parameters = registers_for d e f }) h k
  loop_turns i r slot x y z end next away (Do variable counter body parameters) _ h k = absurd k
  loop_turns i r slot x y z end next away (Count variable counter body a b c) _ h k = absurd k
  loop_turns i r slot x y z end next away _ q h k = absurd h

  stands_turns : (i : ℕ) (r : Resolved) (act : Action) (next away : ℕ) (o q : Operation) → StandsForStatement plan statements i r act o next
      → StandsForStatement twin statements i r act q away → (ran q away others turns).turns ≡ (ran o next registers turns).turns
  stands_turns i r (action.Branch x otherwise) next away o q h k =
      ran_turns away others turns q (tests_keep twin x (onward statements r.ends.items r.next) q k.0)
      ∙ sym (ran_turns next registers turns o (tests_keep plan x (onward statements r.ends.items r.next) o h.0))
  stands_turns i r (action.Loop slot x y z end) next away o q h k = loop_turns i r slot x y z end next away o q h k
  stands_turns i r act next away o q h k =
      ran_turns away others turns q (operation_keeps twin act q k.0) ∙ sym (ran_turns next registers turns o (operation_keeps plan act o h.0))

  slot_value : (one : Plan) (rs : List ℤ) (slot : ℕ) → HoldsRegisters one rs cells → IsSlot one Integer slot → register rs slot ≡ whole (held_in cells slot)
  slot_value one rs slot has is = has.slots slot is.0 ∙ ap (λ kind. read_as kind (held_in cells slot)) is.1

  increments_turns : (d : ℕ) (act : Action) (next away : ℕ) (o q : Operation) → is_loop act ≡ true → StandsForIncrement plan statements d act o next
      → StandsForIncrement twin statements d act q away → (ran q away others turns).turns ≡ (ran o next registers turns).turns
  increments_turns d (action.Loop slot x y z end) next away (Next variable counter body) (Next other count round) loop h k =
      (λ j. (ran (Next other ((k.2 ∙ sym h.2) j) round) away others turns).turns)
      ∙ counted_turns turns counter variable body next other round away registers others (slice_get turns counter)
      (ap (register others) k.0 ∙ slot_value twin others slot also k.1 ∙ sym (slot_value plan registers slot holds h.1) ∙ ap (register registers) (sym h.0))
  increments_turns d (action.Loop slot x y z end) next away (Next variable counter body) _ loop h k = absurd k
  increments_turns d (action.Loop slot x y z end) next away _ q loop h k = absurd h
  increments_turns d _ next away o q loop h k = absurd (cc (loop))

  module _ (code twice : List Instruction) (are : AreCode plan statements code) (be : AreCode twin statements twice) where
    -- the instructions at one place
    pair_turns : (j : ℕ) (x y : Instruction) → slice_get code j ≡ Some x → slice_get twice j ≡ Some y
        → (ran y.operation y.next others turns).turns ≡ (ran x.operation x.next registers turns).turns
    pair_turns j x y at there = by (order j (length statements))
      where
        by : (j < length statements) ⊎ (length statements ≤ j) → (ran y.operation y.next others turns).turns ≡ (ran x.operation x.next registers turns).turns
        by (inl h) =
            let r = item_at statements j h in
            stands_turns j r.0 r.0.action x.next y.next x.operation y.operation (are.executed j r.0 x r.1 at) (be.executed j r.0 y r.1 there)
        by (inr h) =
            let within = slice_get_within code j x at in
            let d = counted_at statements (j - length statements) (omega (arith, within, are.count, h)) in
            let place : length statements + do_rank statements d.place ≡ j = omega (arith, d.ranked, h) in
            increments_turns d.place d.resolved.action x.next y.next x.operation y.operation d.loop
            (are.incremented d.place d.resolved x d.at (ap (slice_get code) place ∙ at))
            (be.incremented d.place d.resolved y d.at (ap (slice_get twice) place ∙ there))

    -- one instruction of each
    pub one_turns : (place : ℕ) → (one twice (point place others turns)).turns ≡ (one code (point place registers turns)).turns
    one_turns place = by (slice_get code place) (slice_get twice place) refl refl
      where
        by : (o q : Option Instruction) → slice_get code place ≡ o → slice_get twice place ≡ q
            → (option_map_or (λ instruction. ran instruction.operation instruction.next others turns) q (point place others turns)).turns
            ≡ (option_map_or (λ instruction. ran instruction.operation instruction.next registers turns) o (point place registers turns)).turns
        by None None at there = refl
        by (Some x) (Some y) at there = pair_turns place x y at there
        by None (Some y) at there =
            let within = slice_get_within twice place y there in
            let below : place < length code = omega (arith, within, are.count, be.count) in
            let x = item_at code place below in
            absurd (cc (at, x.1))
        by (Some x) None at there =
            let within = slice_get_within code place x at in
            let below : place < length twice = omega (arith, within, are.count, be.count) in
            let y = item_at twice place below in
            absurd (cc (there, y.1))

-- what a register stands for, as a number again
coded_decoded : (z : ℤ) → coded (decoded z) ≡ z
coded_decoded (negsuc n) = refl
coded_decoded (pos n) = by (n == 1099511627776) refl
  where
    by : (b : Bool) → (n == 1099511627776) ≡ b → coded (if b then Err Undefined else Ok (pos n)) ≡ pos n
    by true t = ap pos (sym (eqb-true n 1099511627776 t))
    by false t = refl

-- registers that stand for the same are equal
pub same_number : (xs ys : List ℤ) (k : ℕ) → k < length xs → k < length ys → register xs k ≡ register ys k → slice_get xs k ≡ slice_get ys k
same_number xs ys k below there e =
    let z = item_at xs k below in
    let w = item_at ys k there in
    let equal : decoded z.0 ≡ decoded w.0 = sym (ap decoded_at z.1) ∙ e ∙ ap decoded_at w.1 in
    z.1 ∙ ap Some (sym (coded_decoded z.0) ∙ ap coded equal ∙ coded_decoded w.0) ∙ sym w.1
