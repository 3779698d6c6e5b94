-- Registers behind those that instructions name make no difference to the others, and stay.
use Rattle.f77_code.proofs.Common.{◌≡◌, ◌∙◌, ap, sym, arith, ℕ, refl, subst, length, true, ◌+◌, List, Some, ◌<◌, slice_get, false, [], suc, ◌∷◌, zero, Bool, ℤ}
use Rattle.f77_code.proofs.Common.{pos, None, Ok, Option, Result, Err, slice_set, ◌*◌, if◌then◌else◌, negsuc, drop, nat_lt, ◌++◌, ltb-true, length-set, lt-ltb}
use Rattle.f77_code.proofs.Common.{unwrap_or, ◌+ℤ◌, drop-set-lt, and_parts, set-append_left, option_map_or, negation, is_same, in_range, trip_count, negated}
use Rattle.f77_code.proofs.Common.{without_sign, given, both, element, pushed, Fault, point, Point, code_after, ran, term_value, register, one, matrix_place}
use Rattle.f77_code.proofs.Common.{passed, related_number, vector_place, branch, by_sign, connected_number, item_chosen, one_less, put_in_register}
use Rattle.f77_code.proofs.Common.{begun_in_code, code_within, element_at, operation_within, put_at, used_in_code, with_more, AllWriteBelow, calculated}
use Rattle.f77_code.proofs.Common.{incremented_in_code, term_within, IsInArray, IsWritten, begun_with, decoded_at, LeavesBehind, MoreRegisters, WritesBelow}
use Rattle.f77_code.proofs.Common.{array_within, Turn, Instruction, Operation, Next, When', Count, Do, IfTrue, SetElement, SetMatrix, Add, Continue, Goto}
use Rattle.f77_code.proofs.Common.{IfCompared, IfRelated, Load, Multiply, Return, Select, Set, Sign, Stop, Subtract, Trap, Term, Compared, Related', Register}
use Rattle.f77_code.proofs.Common.{Absolute', Add', Calculated', Connected', Difference, Element, Matrix', MatrixAt, Multiply', Negated', Not', Product}
use Rattle.f77_code.proofs.Common.{Subtract', Sum, TooLarge, Vector', ZeroPush'}
use Rattle.f77_actions.specs.declared.expression.Arithmetic.TheVariants as arithmetic
use Rattle.f77_code.specs.declared.instruction.Operation.{Move}
use Rattle.f77_code.proofs.Listed.{get_left}
use Rattle.f77_code.proofs.Reached.{at_most}
use Rattle.f77_code.proofs.SameValue.{place_below, matrix_place_below}
use Rattle.f77_code.proofs.Sequences.{one_within}

-- registers, and more of them behind
module _ (registers extra : List ℤ) where
  register_more : (r : ℕ) → nat_lt r (length registers) ≡ true → register (registers ++ extra) r ≡ register registers r
  register_more r h = ap decoded_at (get_left registers extra r (ltb-true r (length registers) h))

  place_there : (first count k : ℕ) → array_within (length registers) first count ≡ true → k < count → nat_lt (first + k) (length registers) ≡ true
  place_there first count k h below = let most = at_most (length registers) (first + count) h in lt-ltb (first + k) (length registers) (omega (arith, most, below))

  element_more : (first count : ℕ) → array_within (length registers) first count ≡ true → (place : Result ℕ Fault) → ((k : ℕ) → place ≡ Ok k → k < count)
      → element_at (registers ++ extra) first place ≡ element_at registers first place
  element_more first count h (Ok k) below = register_more (first + k) (place_there first count k h (below k refl))
  element_more first count h (Err f) below = refl

  vector_more : (first bound : ℕ) → array_within (length registers) first bound ≡ true → (r : Result ℤ Fault)
      → element_at (registers ++ extra) first (vector_place bound r) ≡ element_at registers first (vector_place bound r)
  vector_more first bound h (Ok z) = element_more first bound h (element (bound ∷ []) (z ∷ [])) (place_below bound z)
  vector_more first bound h (Err f) = refl

  matrix_more : (first rows columns : ℕ) → array_within (length registers) first (rows * columns) ≡ true → (r q : Result ℤ Fault)
      → element_at (registers ++ extra) first (matrix_place rows columns r q) ≡ element_at registers first (matrix_place rows columns r q)
  matrix_more first rows columns h (Ok z) (Ok w) =
      element_more first (rows * columns) h (element (rows ∷ (columns ∷ [])) (z ∷ (w ∷ []))) (matrix_place_below rows columns z w)
  matrix_more first rows columns h (Ok z) (Err f) = refl
  matrix_more first rows columns h (Err f) q = refl

  -- an operation on two registers
  pair_more : (f : ℤ → ℤ → Result ℤ Fault) (left right : ℕ) → nat_lt left (length registers) ≡ true → nat_lt right (length registers) ≡ true
      → both f (register (registers ++ extra) left) (register (registers ++ extra) right) ≡ both f (register registers left) (register registers right)
  pair_more f left right a b = λ i. both f (register_more left a i) (register_more right b i)

  -- an element, where both subscripts stand for the same
  element_by : (first bound : ℕ) (r q : Result ℤ Fault) → array_within (length registers) first bound ≡ true → r ≡ q
      → element_at (registers ++ extra) first (vector_place bound r) ≡ element_at registers first (vector_place bound q)
  element_by first bound r q h e = ap (λ r. element_at (registers ++ extra) first (vector_place bound r)) e ∙ vector_more first bound h q

  term_more : (t : Term) → term_within (length registers) t ≡ true → term_value (registers ++ extra) t ≡ term_value registers t
  term_more (Register r) h = register_more r h
  term_more (Element first bound s) h = let parts = and_parts _ _ h in element_by first bound _ _ parts.0 (register_more s parts.1)
  term_more (MatrixAt first rows columns row column) h =
      let parts = and_parts _ _ h in
      let two = and_parts _ _ parts.1 in
      (λ i. element_at (registers ++ extra) first (matrix_place rows columns (register_more row two.0 i) (register_more column two.1 i)))
      ∙ matrix_more first rows columns parts.0 (register registers row) (register registers column)
  term_more (Sum l r) h = let parts = and_parts _ _ h in pair_more (calculated arithmetic.Add) l r parts.0 parts.1
  term_more (Difference l r) h = let parts = and_parts _ _ h in pair_more (calculated arithmetic.Subtract) l r parts.0 parts.1
  term_more (Product l r) h = let parts = and_parts _ _ h in pair_more (calculated arithmetic.Multiply) l r parts.0 parts.1
  term_more (Compared op l r) h = let parts = and_parts _ _ h in pair_more (related_number op) l r parts.0 parts.1
  term_more TooLarge h = refl
  term_more (Vector' first bound p s) h = let parts = and_parts _ _ h in element_by first bound _ _ parts.0 (term_more s parts.1)
  term_more (Matrix' first rows columns p row column) h =
      let parts = and_parts _ _ h in
      let two = and_parts _ _ parts.1 in
      (λ i. element_at (registers ++ extra) first (matrix_place rows columns (term_more row two.0 i) (term_more column two.1 i)))
      ∙ matrix_more first rows columns parts.0 (term_value registers row) (term_value registers column)
  term_more (Add' p l r) h = let parts = and_parts _ _ h in λ i. both (calculated arithmetic.Add) (term_more l parts.0 i) (term_more r parts.1 i)
  term_more (Subtract' p l r) h = let parts = and_parts _ _ h in λ i. both (calculated arithmetic.Subtract) (term_more l parts.0 i) (term_more r parts.1 i)
  term_more (Multiply' p l r) h = let parts = and_parts _ _ h in λ i. both (calculated arithmetic.Multiply) (term_more l parts.0 i) (term_more r parts.1 i)
  term_more (Calculated' op p l r) h = let parts = and_parts _ _ h in λ i. both (calculated op) (term_more l parts.0 i) (term_more r parts.1 i)
  term_more (Negated' p t) h = ap (λ r. given r (λ z. in_range (negated z))) (term_more t h)
  term_more (Absolute' p t) h = ap (λ r. given r (λ z. in_range (without_sign z))) (term_more t h)
  term_more (ZeroPush' p t) h = ap (λ r. given r pushed) (term_more t h)
  term_more (Related' op p l r) h = let parts = and_parts _ _ h in λ i. both (related_number op) (term_more l parts.0 i) (term_more r parts.1 i)
  term_more (Connected' op p l r) h = let parts = and_parts _ _ h in λ i. both (connected_number op) (term_more l parts.0 i) (term_more r parts.1 i)
  term_more (Not' p t) h = ap (λ r. given r (λ z. Ok (negation z))) (term_more t h)

  -- a result that is used leads to the same point with more registers, where each value does
  used_more : {A : Type 0} (r q : Result A Fault) (turns : List Turn) (f g : A → Point) → r ≡ q → ((x : A) → q ≡ Ok x → f x ≡ with_more (g x) extra)
      → used_in_code r (registers ++ extra) turns f ≡ with_more (used_in_code q registers turns g) extra
  used_more {A = A} r q turns f g e each = ap (λ r. used_in_code r (registers ++ extra) turns f) e ∙ by q each
    where
      by : (q : Result A Fault) → ((x : A) → q ≡ Ok x → f x ≡ with_more (g x) extra)
          → used_in_code q (registers ++ extra) turns f ≡ with_more (used_in_code q registers turns g) extra
      by (Ok x) each = each x refl
      by (Err fault) each = refl

  set_more : (k : ℕ) (z : ℤ) → nat_lt k (length registers) ≡ true → slice_set (registers ++ extra) k z ≡ slice_set registers k z ++ extra
  set_more k z h = set-append_left registers extra k z (ltb-true k (length registers) h)

  module _ (next : ℕ) (turns : List Turn) where
    put_more : (to : ℕ) (r q : Result ℤ Fault) → nat_lt to (length registers) ≡ true → r ≡ q
        → put_in_register to r next (registers ++ extra) turns ≡ with_more (put_in_register to q next registers turns) extra
    put_more to r q h e =
        used_more r q turns (λ z. point next (slice_set (registers ++ extra) to z) turns) (λ z. point next (slice_set registers to z) turns) e
        (λ z is. ap (λ rs. point next rs turns) (set_more to z h))

    store_more : (first count : ℕ) (place there : Result ℕ Fault) (r q : Result ℤ Fault) → array_within (length registers) first count ≡ true
        → ((k : ℕ) → there ≡ Ok k → k < count) → place ≡ there → r ≡ q
        → put_at first place r next (registers ++ extra) turns ≡ with_more (put_at first there q next registers turns) extra
    store_more first count place there r q h below same e =
        used_more place there turns (λ k. put_in_register (first + k) r next (registers ++ extra) turns) (λ k. put_in_register (first + k) q next registers turns) same
        (λ k is. put_more (first + k) r q (place_there first count k h (below k is)) e)

    vector_there : (bound : ℕ) (r : Result ℤ Fault) (k : ℕ) → vector_place bound r ≡ Ok k → k < bound
    vector_there bound (Ok z) k e = place_below bound z k e
    vector_there bound (Err f) k e = absurd (cc (e))

    matrix_there : (rows columns : ℕ) (r q : Result ℤ Fault) (k : ℕ) → matrix_place rows columns r q ≡ Ok k → k < rows * columns
    matrix_there rows columns (Ok z) (Ok w) k e = matrix_place_below rows columns z w k e
    matrix_there rows columns (Ok z) (Err f) k e = absurd (cc (e))
    matrix_there rows columns (Err f) q k e = absurd (cc (e))

    store_vector : (first bound : ℕ) (s t r q : Result ℤ Fault) → array_within (length registers) first bound ≡ true → s ≡ t → r ≡ q
        → put_at first (vector_place bound s) r next (registers ++ extra) turns ≡ with_more (put_at first (vector_place bound t) q next registers turns) extra
    store_vector first bound s t r q h same e =
        store_more first bound (vector_place bound s) (vector_place bound t) r q h (vector_there bound t) (ap (vector_place bound) same) e

    branch_more : (there : ℕ) (r q : Result ℤ Fault) → r ≡ q → branch r there next (registers ++ extra) turns ≡ with_more (branch q there next registers turns) extra
    branch_more there r q e =
        used_more r q turns (λ z. point (if is_same z (pos 0) then next else there) (registers ++ extra) turns)
        (λ z. point (if is_same z (pos 0) then next else there) registers turns) e (λ z is. refl)

passed_more : (counter body next passes : ℕ) (step : ℤ) (registers extra : List ℤ) (turns : List Turn)
    → passed counter body next passes step (registers ++ extra) turns ≡ with_more (passed counter body next passes step registers turns) extra
passed_more counter body next zero step registers extra turns = refl
passed_more counter body next (suc k) step registers extra turns = refl

module _ (registers extra : List ℤ) (next : ℕ) (turns : List Turn) where
  begun_more : (variable counter body : ℕ) (first last step : ℤ) → nat_lt variable (length registers) ≡ true
      → begun_in_code variable counter body next first last step (registers ++ extra) turns ≡ with_more (begun_in_code variable counter body next first last step registers turns) extra
  begun_more variable counter body first last (pos zero) h = refl
  begun_more variable counter body first last (pos (suc m)) h =
      ap (λ rs. passed counter body next (trip_count first last (pos (suc m))) (pos (suc m)) rs turns) (set_more registers extra variable first h)
      ∙ passed_more counter body next (trip_count first last (pos (suc m))) (pos (suc m)) (slice_set registers variable first) extra turns
  begun_more variable counter body first last (negsuc m) h =
      ap (λ rs. passed counter body next (trip_count first last (negsuc m)) (negsuc m) rs turns) (set_more registers extra variable first h)
      ∙ passed_more counter body next (trip_count first last (negsuc m)) (negsuc m) (slice_set registers variable first) extra turns

  begins_more : (variable counter body : ℕ) (a b c x y z : Result ℤ Fault) → nat_lt variable (length registers) ≡ true → a ≡ x → b ≡ y → c ≡ z
      → begun_with variable counter body next a b c (registers ++ extra) turns ≡ with_more (begun_with variable counter body next x y z registers turns) extra
  begins_more variable counter body a b c x y z h first last step =
      used_more registers extra a x turns _ _ first
      (λ a _. used_more registers extra b y turns _ _ last
      (λ b _. used_more registers extra c z turns _ _ step
      (λ c _. begun_more variable counter body a b c h)))

  incremented_more : (variable counter body : ℕ) (turn : Turn) → nat_lt variable (length registers) ≡ true
      → incremented_in_code variable counter body next turn (registers ++ extra) turns ≡ with_more (incremented_in_code variable counter body next turn registers turns) extra
  incremented_more variable counter body turn h =
      used_more registers extra
      (given (register (registers ++ extra) variable) (λ z. in_range (z +ℤ turn.step))) (given (register registers variable) (λ z. in_range (z +ℤ turn.step))) turns
      (λ z. passed counter body next (one_less turn.passes) turn.step (slice_set (registers ++ extra) variable z) turns)
      (λ z. passed counter body next (one_less turn.passes) turn.step (slice_set registers variable z) turns)
      (ap (λ r. given r (λ z. in_range (z +ℤ turn.step))) (register_more registers extra variable h))
      (λ z _. ap (λ rs. passed counter body next (one_less turn.passes) turn.step rs turns) (set_more registers extra variable z h)
      ∙ passed_more counter body next (one_less turn.passes) turn.step (slice_set registers variable z) extra turns)

  counted_more : (variable counter body : ℕ) (o : Option Turn) → nat_lt variable (length registers) ≡ true
      → option_map_or (λ turn. incremented_in_code variable counter body next turn (registers ++ extra) turns) o (point next (registers ++ extra) turns)
      ≡ with_more (option_map_or (λ turn. incremented_in_code variable counter body next turn registers turns) o (point next registers turns)) extra
  counted_more variable counter body None h = refl
  counted_more variable counter body (Some turn) h = incremented_more variable counter body turn h

  when_more : (b : Bool) (p q : Point) → p ≡ with_more q extra
      → (if b then point next (registers ++ extra) turns else p) ≡ with_more (if b then point next registers turns else q) extra
  when_more true p q e = refl
  when_more false p q e = e

  -- an operation does the same with more registers
  pub ran_more : (loops : ℕ) (operation : Operation) → operation_within (length registers) loops operation ≡ true
      → ran operation next (registers ++ extra) turns ≡ with_more (ran operation next registers turns) extra
  ran_more loops (Set to term) h =
      let parts = and_parts _ _ h in put_more registers extra next turns to _ _ parts.0 (term_more registers extra term.value parts.1)
  ran_more loops (SetElement first bound pair) h =
      let parts = and_parts _ _ h in
      let two = and_parts _ _ parts.1 in
      store_vector registers extra next turns first bound _ _ _ _ parts.0 (term_more registers extra pair.value.left two.0) (term_more registers extra pair.value.right two.1)
  ran_more loops (SetMatrix first rows columns pair term) h =
      let parts = and_parts _ _ h in
      let two = and_parts _ _ parts.1 in
      let three = and_parts _ _ two.1 in
      store_more registers extra next turns first (rows * columns) _ _ _ _ parts.0
      (matrix_there registers extra next turns rows columns (term_value registers pair.value.left) (term_value registers pair.value.right))
      (λ i. matrix_place rows columns (term_more registers extra pair.value.left two.0 i) (term_more registers extra pair.value.right three.0 i))
      (term_more registers extra term.value three.1)
  ran_more loops (IfTrue there term) h = branch_more registers extra next turns there _ _ (term_more registers extra term.value h)
  ran_more loops (IfRelated op there pair) h =
      let parts = and_parts _ _ h in
      branch_more registers extra next turns there _ _
      (λ i. both (related_number op) (term_more registers extra pair.value.left parts.0 i) (term_more registers extra pair.value.right parts.1 i))
  ran_more loops (IfCompared op left right there) h =
      let parts = and_parts _ _ h in branch_more registers extra next turns there _ _ (pair_more registers extra (related_number op) left right parts.0 parts.1)
  ran_more loops (Do variable counter body parameters) h =
      let parts = and_parts _ _ h in
      let two = and_parts _ _ parts.1 in
      let three = and_parts _ _ two.1 in
      let four = and_parts _ _ three.1 in
      begins_more variable counter body _ _ _ _ _ _ parts.0 (term_more registers extra parameters.value.first three.0)
      (term_more registers extra parameters.value.last four.0) (term_more registers extra parameters.value.step four.1)
  ran_more loops (Count variable counter body first last step) h =
      let parts = and_parts _ _ h in
      let two = and_parts _ _ parts.1 in
      let three = and_parts _ _ two.1 in
      let four = and_parts _ _ three.1 in
      begins_more variable counter body _ _ _ _ _ _ parts.0 (register_more registers extra first three.0) (register_more registers extra last four.0)
      (register_more registers extra step four.1)
  ran_more loops (Next variable counter body) h = counted_more variable counter body (slice_get turns counter) (and_parts _ _ h).0
  ran_more loops (Sign negative middle positive term) h =
      used_more registers extra _ _ turns (λ z. point (by_sign z negative middle positive) (registers ++ extra) turns)
      (λ z. point (by_sign z negative middle positive) registers turns) (term_more registers extra term.value h) (λ z _. refl)
  ran_more loops (Select term places) h =
      used_more registers extra _ _ turns (λ z. point (unwrap_or (item_chosen places.items z) next) (registers ++ extra) turns)
      (λ z. point (unwrap_or (item_chosen places.items z) next) registers turns) (term_more registers extra term.value h) (λ z _. refl)
  ran_more loops (When' term p inner) h =
      let parts = and_parts _ _ h in
      used_more registers extra _ _ turns
      (λ z. if is_same z (pos 0) then point next (registers ++ extra) turns else ran inner next (registers ++ extra) turns)
      (λ z. if is_same z (pos 0) then point next registers turns else ran inner next registers turns)
      (term_more registers extra term.value parts.0) (λ z _. when_more (is_same z (pos 0)) _ _ (ran_more loops inner parts.1))
  ran_more loops Continue h = refl
  ran_more loops (Goto there) h = refl
  ran_more loops Return h = refl
  ran_more loops Stop h = refl
  ran_more loops Trap h = refl
  ran_more loops (Move to from) h =
      let parts = and_parts _ _ h in put_more registers extra next turns to _ _ parts.0 (register_more registers extra from parts.1)
  ran_more loops (Add to left right) h =
      let parts = and_parts _ _ h in
      let two = and_parts _ _ parts.1 in
      put_more registers extra next turns to _ _ parts.0 (pair_more registers extra (calculated arithmetic.Add) left right two.0 two.1)
  ran_more loops (Subtract to left right) h =
      let parts = and_parts _ _ h in
      let two = and_parts _ _ parts.1 in
      put_more registers extra next turns to _ _ parts.0 (pair_more registers extra (calculated arithmetic.Subtract) left right two.0 two.1)
  ran_more loops (Multiply to left right) h =
      let parts = and_parts _ _ h in
      let two = and_parts _ _ parts.1 in
      put_more registers extra next turns to _ _ parts.0 (pair_more registers extra (calculated arithmetic.Multiply) left right two.0 two.1)
  ran_more loops (Load to first bound subscript) h =
      let parts = and_parts _ _ h in
      let two = and_parts _ _ parts.1 in
      put_more registers extra next turns to _ _ parts.0 (element_by registers extra first bound _ _ two.0 (register_more registers extra subscript two.1))

-- What is so of registers, and stays so where one that is written is given a value, is so behind an operation.
module _ (P : List ℤ → Type 0) (next : ℕ) (turns : List Turn) where
  used_keeps : {A : Type 0} (registers : List ℤ) (r : Result A Fault) (f : A → Point) → P registers → ((x : A) → r ≡ Ok x → P (f x).registers)
      → P (used_in_code r registers turns f).registers
  used_keeps registers (Ok x) f now each = each x refl
  used_keeps registers (Err fault) f now each = now

  passed_keeps : (counter body passes : ℕ) (step : ℤ) (registers : List ℤ) → P registers → P (passed counter body next passes step registers turns).registers
  passed_keeps counter body zero step registers now = now
  passed_keeps counter body (suc k) step registers now = now

  module _ (registers : List ℤ) (now : P registers) where
    put_keeps : (to : ℕ) (r : Result ℤ Fault) → ((z : ℤ) → P (slice_set registers to z)) → P (put_in_register to r next registers turns).registers
    put_keeps to r set = used_keeps registers r (λ z. point next (slice_set registers to z) turns) now (λ z _. set z)

    store_keeps : (first count : ℕ) (place : Result ℕ Fault) (r : Result ℤ Fault) → ((k : ℕ) → place ≡ Ok k → k < count)
        → ((k : ℕ) (z : ℤ) → IsInArray first count k → P (slice_set registers k z)) → P (put_at first place r next registers turns).registers
    store_keeps first count place r below set =
        used_keeps registers place (λ k. put_in_register (first + k) r next registers turns) now
        (λ k is. put_keeps (first + k) r (λ z. set (first + k) z (record { place = k; below = below k is; is = refl })))

    branch_keeps : (there : ℕ) (r : Result ℤ Fault) → P (branch r there next registers turns).registers
    branch_keeps there r = used_keeps registers r (λ z. point (if is_same z (pos 0) then next else there) registers turns) now (λ z _. now)

    begun_keeps : (variable counter body : ℕ) (first last step : ℤ) → ((z : ℤ) → P (slice_set registers variable z))
        → P (begun_in_code variable counter body next first last step registers turns).registers
    begun_keeps variable counter body first last (pos zero) set = now
    begun_keeps variable counter body first last (pos (suc m)) set =
        passed_keeps counter body (trip_count first last (pos (suc m))) (pos (suc m)) (slice_set registers variable first) (set first)
    begun_keeps variable counter body first last (negsuc m) set =
        passed_keeps counter body (trip_count first last (negsuc m)) (negsuc m) (slice_set registers variable first) (set first)

    begins_keeps : (variable counter body : ℕ) (a b c : Result ℤ Fault) → ((z : ℤ) → P (slice_set registers variable z))
        → P (begun_with variable counter body next a b c registers turns).registers
    begins_keeps variable counter body a b c set =
        used_keeps registers a _ now (λ x _. used_keeps registers b _ now (λ y _. used_keeps registers c _ now (λ z _. begun_keeps variable counter body x y z set)))

    counted_keeps : (variable counter body : ℕ) (o : Option Turn) → ((z : ℤ) → P (slice_set registers variable z))
        → P (option_map_or (λ turn. incremented_in_code variable counter body next turn registers turns) o (point next registers turns)).registers
    counted_keeps variable counter body None set = now
    counted_keeps variable counter body (Some turn) set =
        used_keeps registers (given (register registers variable) (λ z. in_range (z +ℤ turn.step)))
        (λ z. passed counter body next (one_less turn.passes) turn.step (slice_set registers variable z) turns) now
        (λ z _. passed_keeps counter body (one_less turn.passes) turn.step (slice_set registers variable z) (set z))

    when_keeps : (b : Bool) (p : Point) → P p.registers → P (if b then point next registers turns else p).registers
    when_keeps true p h = now
    when_keeps false p h = h

    ran_keeps : (operation : Operation) → ((k : ℕ) (z : ℤ) → IsWritten operation k → P (slice_set registers k z)) → P (ran operation next registers turns).registers
    ran_keeps (Set to term) set = put_keeps to (term_value registers term.value) (λ z. set to z refl)
    ran_keeps (SetElement first bound pair) set =
        store_keeps first bound (vector_place bound (term_value registers pair.value.left)) (term_value registers pair.value.right)
        (vector_there registers registers next turns bound (term_value registers pair.value.left)) set
    ran_keeps (SetMatrix first rows columns pair term) set =
        store_keeps first (rows * columns) (matrix_place rows columns (term_value registers pair.value.left) (term_value registers pair.value.right))
        (term_value registers term.value)
        (matrix_there registers registers next turns rows columns (term_value registers pair.value.left) (term_value registers pair.value.right)) set
    ran_keeps (IfTrue there term) set = branch_keeps there (term_value registers term.value)
    ran_keeps (IfRelated op there pair) set =
        branch_keeps there (both (related_number op) (term_value registers pair.value.left) (term_value registers pair.value.right))
    ran_keeps (IfCompared op left right there) set = branch_keeps there (both (related_number op) (register registers left) (register registers right))
    ran_keeps (Do variable counter body parameters) set =
        begins_keeps variable counter body (term_value registers parameters.value.first) (term_value registers parameters.value.last)
        (term_value registers parameters.value.step) (λ z. set variable z refl)
    ran_keeps (Count variable counter body first last step) set =
        begins_keeps variable counter body (register registers first) (register registers last) (register registers step) (λ z. set variable z refl)
    ran_keeps (Next variable counter body) set = counted_keeps variable counter body (slice_get turns counter) (λ z. set variable z refl)
    ran_keeps (Sign negative middle positive term) set =
        used_keeps registers (term_value registers term.value) (λ z. point (by_sign z negative middle positive) registers turns) now (λ z _. now)
    ran_keeps (Select term places) set =
        used_keeps registers (term_value registers term.value) (λ z. point (unwrap_or (item_chosen places.items z) next) registers turns) now (λ z _. now)
    ran_keeps (When' term p inner) set =
        used_keeps registers (term_value registers term.value)
        (λ z. if is_same z (pos 0) then point next registers turns else ran inner next registers turns) now
        (λ z _. when_keeps (is_same z (pos 0)) (ran inner next registers turns) (ran_keeps inner set))
    ran_keeps Continue set = now
    ran_keeps (Goto there) set = now
    ran_keeps Return set = now
    ran_keeps Stop set = now
    ran_keeps Trap set = now
    ran_keeps (Move to from) set = put_keeps to (register registers from) (λ z. set to z refl)
    ran_keeps (Add to left right) set =
        put_keeps to (both (calculated arithmetic.Add) (register registers left) (register registers right)) (λ z. set to z refl)
    ran_keeps (Subtract to left right) set =
        put_keeps to (both (calculated arithmetic.Subtract) (register registers left) (register registers right)) (λ z. set to z refl)
    ran_keeps (Multiply to left right) set =
        put_keeps to (both (calculated arithmetic.Multiply) (register registers left) (register registers right)) (λ z. set to z refl)
    ran_keeps (Load to first bound subscript) set =
        put_keeps to (element_at registers first (vector_place bound (register registers subscript))) (λ z. set to z refl)

-- an operation leaves the number of registers as it was
pub ran_length : (operation : Operation) (next : ℕ) (registers : List ℤ) (turns : List Turn) → length (ran operation next registers turns).registers ≡ length registers
ran_length operation next registers turns =
    ran_keeps (λ rs. length rs ≡ length registers) next turns registers refl operation (λ k z _. length-set registers k z)

pub ran_behind : (n : ℕ) (operation : Operation) (next : ℕ) (registers : List ℤ) (turns : List Turn) → WritesBelow n operation
    → drop n (ran operation next registers turns).registers ≡ drop n registers
ran_behind n operation next registers turns below =
    ran_keeps (λ rs. drop n rs ≡ drop n registers) next turns registers refl operation (λ k z w. drop-set-lt n registers k z (below k w))

pub one_length : (code : List Instruction) (p : Point) → length (one code p).registers ≡ length p.registers
one_length code p = by (slice_get code p.place)
  where
    by : (o : Option Instruction)
        → length (option_map_or (λ instruction. ran instruction.operation instruction.next p.registers p.turns) o p).registers ≡ length p.registers
    by None = refl
    by (Some x) = ran_length x.operation x.next p.registers p.turns

pub one_more : (code : List Instruction) (loops : ℕ) (p : Point) (extra : List ℤ) → code_within (length p.registers) loops code ≡ true
    → one code (with_more p extra) ≡ with_more (one code p) extra
one_more code loops p extra within = by (slice_get code p.place) refl
  where
    by : (o : Option Instruction) → slice_get code p.place ≡ o
        → option_map_or (λ instruction. ran instruction.operation instruction.next (p.registers ++ extra) p.turns) o (with_more p extra)
        ≡ with_more (option_map_or (λ instruction. ran instruction.operation instruction.next p.registers p.turns) o p) extra
    by None e = refl
    by (Some x) e = ran_more p.registers extra x.next p.turns loops x.operation (one_within (length p.registers) loops code p.place x within e)

pub one_behind : (code : List Instruction) (n : ℕ) (p : Point) → AllWriteBelow n code → drop n (one code p).registers ≡ drop n p.registers
one_behind code n p below = by (slice_get code p.place) refl
  where
    by : (o : Option Instruction) → slice_get code p.place ≡ o
        → drop n (option_map_or (λ instruction. ran instruction.operation instruction.next p.registers p.turns) o p).registers ≡ drop n p.registers
    by None e = refl
    by (Some x) e = ran_behind n x.operation x.next p.registers p.turns (below p.place x e)

pub length_after : (code : List Instruction) (n : ℕ) (p : Point) → length (code_after code n p).registers ≡ length p.registers
length_after code zero p = refl
length_after code (suc n) p = length_after code n (one code p) ∙ one_length code p

pub more_registers : MoreRegisters
more_registers code loops zero p extra within = refl
more_registers code loops (suc n) p extra within =
    ap (code_after code n) (one_more code loops p extra within)
    ∙ more_registers code loops n (one code p) extra (subst (λ k. code_within k loops code ≡ true) (sym (one_length code p)) within)

pub leaves_behind : LeavesBehind
leaves_behind code n zero p below = refl
leaves_behind code n (suc steps) p below = leaves_behind code n steps (one code p) below ∙ one_behind code n p below
