-- A term over registers has the value of the expression over slots that it stands for.
use Rattle.f77_code.proofs.Common.{◌≡◌, ◌∙◌, ap, sym, arith, ℕ, refl, subst, true, ◌+◌, List, ◌<◌, false, [], suc, ◌∷◌, zero, Bool, ℤ, pos, Ok, Result, Err}
use Rattle.f77_code.proofs.Common.{◌*◌, negsuc, nat_lt, ltb-true, not, truth_number, negation, of_truth, in_range, negated, without_sign, given, both, element}
use Rattle.f77_code.proofs.Common.{pushed, logic, Condition, Related, Connective, Variable, Number, Binary', Constant, Relation, Fault, Plan, term_value}
use Rattle.f77_code.proofs.Common.{register, Cells, HoldsRegisters, IsSlot, IsTerm, IsTest, matrix_place, related_number, vector_place, connected_number}
use Rattle.f77_code.proofs.Common.{held_in, read_as, element_at, number_in, AreSlots, calculated, compared, truth_in, IsConstant, ReadsElement, slot_in, joined}
use Rattle.f77_code.proofs.Common.{Term, Compared, Related', Register, Absolute', Add', Calculated', Connected', Difference, Element, Matrix', MatrixAt}
use Rattle.f77_code.proofs.Common.{Multiply', Negated', Not', Product, Subtract', Sum, TooLarge, Vector', ZeroPush', Kind, Integer, Logical}
use Rattle.f77_actions.specs.declared.expression.Arithmetic.{Arithmetic}
use Rattle.f77_actions.specs.declared.expression.Arithmetic.TheVariants as arithmetic
use Rattle.f77_actions.specs.declared.expression.Connective.TheVariants as connective
use Rattle.f77_actions.specs.declared.expression.Element as slots
use Rattle.f77_actions.specs.declared.expression.Number as number
use Rattle.f77_actions.specs.declared.expression.Condition as condition
use Rattle.f77_code.proofs.Reading.{in_matrix}

-- the place of an element is among those of its array
pub place_below : (bound : ℕ) (z : ℤ) (k : ℕ) → element (bound ∷ []) (z ∷ []) ≡ Ok k → k < bound
place_below bound (pos zero) k e = absurd (cc (e))
place_below bound (negsuc n) k e = absurd (cc (e))
place_below bound (pos (suc n)) k e = by (nat_lt n bound) refl
  where
    by : (c : Bool) → nat_lt n bound ≡ c → k < bound
    by true t = let whole = rw t at e in let same : n + bound * 0 ≡ k = cc (whole) in let below = ltb-true n bound t in omega (arith, same)
    by false t = let whole = rw t at e in absurd (cc (whole))

pub matrix_place_below : (rows columns : ℕ) (z w : ℤ) (k : ℕ) → element (rows ∷ (columns ∷ [])) (z ∷ (w ∷ [])) ≡ Ok k → k < rows * columns
matrix_place_below rows columns (pos zero) w k e = absurd (cc (e))
matrix_place_below rows columns (negsuc n) w k e = absurd (cc (e))
matrix_place_below rows columns (pos (suc n)) w k e = by (nat_lt n rows) refl
  where
    across : n < rows → (o : Result ℕ Fault) → ((j : ℕ) → o ≡ Ok j → j < columns) → given o (λ rest. Ok (n + rows * rest)) ≡ Ok k → k < rows * columns
    across small (Ok j) below is =
        let same : n + rows * j ≡ k = cc (is) in subst (λ m. m < rows * columns) same (in_matrix rows columns n j small (below j refl))
    across small (Err f) below is = absurd (cc (is))

    by : (c : Bool) → nat_lt n rows ≡ c → k < rows * columns
    by true t = across (ltb-true n rows t) (element (columns ∷ []) (w ∷ [])) (place_below columns w) (rw t at e)
    by false t = let whole = rw t at e in absurd (cc (whole))

related_same : (op : Relation) (r q : Result ℤ Fault) → both (related_number op) r q ≡ of_truth (both (λ a b. Ok (compared op a b)) r q)
related_same op (Ok x) (Ok y) = refl
related_same op (Ok x) (Err f) = refl
related_same op (Err f) q = refl

connected_same : (op : Connective) (r q : Result Bool Fault) → both (connected_number op) (of_truth r) (of_truth q) ≡ of_truth (both (λ a b. Ok (joined op a b)) r q)
connected_same connective.And (Ok true) (Ok true) = refl
connected_same connective.And (Ok true) (Ok false) = refl
connected_same connective.And (Ok false) (Ok true) = refl
connected_same connective.And (Ok false) (Ok false) = refl
connected_same connective.Or (Ok true) (Ok true) = refl
connected_same connective.Or (Ok true) (Ok false) = refl
connected_same connective.Or (Ok false) (Ok true) = refl
connected_same connective.Or (Ok false) (Ok false) = refl
connected_same connective.Equivalent (Ok true) (Ok true) = refl
connected_same connective.Equivalent (Ok true) (Ok false) = refl
connected_same connective.Equivalent (Ok false) (Ok true) = refl
connected_same connective.Equivalent (Ok false) (Ok false) = refl
connected_same connective.NotEquivalent (Ok true) (Ok true) = refl
connected_same connective.NotEquivalent (Ok true) (Ok false) = refl
connected_same connective.NotEquivalent (Ok false) (Ok true) = refl
connected_same connective.NotEquivalent (Ok false) (Ok false) = refl
connected_same op (Ok true) (Err f) = refl
connected_same op (Ok false) (Err f) = refl
connected_same op (Err f) q = refl

not_same : (r : Result Bool Fault) → given (of_truth r) (λ z. Ok (negation z)) ≡ of_truth (given r (λ b. Ok (not b)))
not_same (Ok true) = refl
not_same (Ok false) = refl
not_same (Err f) = refl

element_same : (cells : Cells) (e : slots.Element) → given (slot_in cells e) (λ k. read_as Logical (held_in cells k)) ≡ of_truth (truth_in cells (condition.Element e))
element_same cells e = by (slot_in cells e)
  where
    by : (r : Result ℕ Fault) → given r (λ k. read_as Logical (held_in cells k)) ≡ of_truth (given r (λ k. logic (held_in cells k)))
    by (Ok k) = refl
    by (Err f) = refl

module _ (plan : Plan) (registers : List ℤ) (cells : Cells) (holds : HoldsRegisters plan registers cells) where
  slot_same : (kind : Kind) (k : ℕ) → IsSlot plan kind k → register registers k ≡ read_as kind (held_in cells k)
  slot_same kind k is = holds.slots k is.0 ∙ ap (λ of. read_as of (held_in cells k)) is.1

  constant_same : (r : ℕ) (z : ℤ) → IsConstant plan r z → register registers r ≡ Ok z
  constant_same r z is = ap (register registers) is.behind ∙ holds.constants is.place z is.value

  -- the element at a place within its array
  at_same : (kind : Kind) (first count : ℕ) → AreSlots plan kind first count → (place : Result ℕ Fault) → ((k : ℕ) → place ≡ Ok k → k < count)
      → element_at registers first place ≡ given (given place (λ k. Ok (first + k))) (λ k. read_as kind (held_in cells k))
  at_same kind first count are (Ok k) below = slot_same kind (first + k) (are k (below k refl))
  at_same kind first count are (Err f) below = refl

  vector_same : (kind : Kind) (first bound : ℕ) → AreSlots plan kind first bound → (r : Result ℤ Fault)
      → element_at registers first (vector_place bound r)
      ≡ given (given r (λ z. given (element (bound ∷ []) (z ∷ [])) (λ k. Ok (first + k)))) (λ k. read_as kind (held_in cells k))
  vector_same kind first bound are (Ok z) = at_same kind first bound are (element (bound ∷ []) (z ∷ [])) (place_below bound z)
  vector_same kind first bound are (Err f) = refl

  matrix_same : (kind : Kind) (first rows columns : ℕ) → AreSlots plan kind first (rows * columns) → (r q : Result ℤ Fault)
      → element_at registers first (matrix_place rows columns r q)
      ≡ given (given r (λ z. given q (λ w. given (element (rows ∷ (columns ∷ [])) (z ∷ (w ∷ []))) (λ k. Ok (first + k)))))
      (λ k. read_as kind (held_in cells k))
  matrix_same kind first rows columns are (Ok z) (Ok w) =
      at_same kind first (rows * columns) are (element (rows ∷ (columns ∷ [])) (z ∷ (w ∷ []))) (matrix_place_below rows columns z w)
  matrix_same kind first rows columns are (Ok z) (Err f) = refl
  matrix_same kind first rows columns are (Err f) q = refl

  operands_same : (op o : Arithmetic) (a b c d : Result ℤ Fault) → op ≡ o → a ≡ c → b ≡ d → both (calculated o) a b ≡ both (calculated op) c d
  operands_same op o a b c d e left right = λ i. both (calculated (sym e i)) (left i) (right i)

  mutual
    reads_same : (kind : Kind) (e : slots.Element) (t : Term) → ReadsElement plan kind e t → term_value registers t ≡ given (slot_in cells e) (λ k. read_as kind (held_in cells k))
    reads_same kind (Variable k) (Register r) h = ap (register registers) h.0 ∙ slot_same kind k h.1
    reads_same kind (slots.Vector' first bound p x) (Element start count s) h =
        (λ i. element_at registers (h.0 i) (vector_place (h.1 i) (same_term x (Register s) h.3 i))) ∙ vector_same kind first bound h.2 (number_in cells x)
    reads_same kind (slots.Vector' first bound p x) (Vector' start count q t) h =
        (λ i. element_at registers (h.0 i) (vector_place (h.1 i) (same_term x t h.3 i))) ∙ vector_same kind first bound h.2 (number_in cells x)
    reads_same kind (slots.Matrix' first rows columns p x q y) (MatrixAt start height width row column) h =
        (λ i. element_at registers (h.0 i) (matrix_place (h.1 i) (h.2 i) (same_term x (Register row) h.4 i) (same_term y (Register column) h.5 i)))
        ∙ matrix_same kind first rows columns h.3 (number_in cells x) (number_in cells y)
    reads_same kind (slots.Matrix' first rows columns p x q y) (Matrix' start height width o row column) h =
        (λ i. element_at registers (h.0 i) (matrix_place (h.1 i) (h.2 i) (same_term x row h.4 i) (same_term y column h.5 i)))
        ∙ matrix_same kind first rows columns h.3 (number_in cells x) (number_in cells y)
    reads_same kind _ _ h = absurd h

    pub same_term : (x : Number) (t : Term) → IsTerm plan x t → term_value registers t ≡ number_in cells x
    same_term (Constant z) (Register r) h = constant_same r z h
    same_term number.TooLarge TooLarge h = refl
    same_term (number.Element e) t h = reads_same Integer e t h
    same_term (number.Negated' p x) (Negated' q t) h = ap (λ r. given r (λ z. in_range (negated z))) (same_term x t h)
    same_term (number.Absolute' p x) (Absolute' q t) h = ap (λ r. given r (λ z. in_range (without_sign z))) (same_term x t h)
    same_term (number.ZeroPush' p x) (ZeroPush' q t) h = ap (λ r. given r pushed) (same_term x t h)
    same_term (Binary' op p x q y) (Sum a b) h =
        operands_same op arithmetic.Add _ _ _ _ h.0 (same_term x (Register a) h.1) (same_term y (Register b) h.2)
    same_term (Binary' op p x q y) (Difference a b) h =
        operands_same op arithmetic.Subtract _ _ _ _ h.0 (same_term x (Register a) h.1) (same_term y (Register b) h.2)
    same_term (Binary' op p x q y) (Product a b) h =
        operands_same op arithmetic.Multiply _ _ _ _ h.0 (same_term x (Register a) h.1) (same_term y (Register b) h.2)
    same_term (Binary' op p x q y) (Add' o left right) h =
        operands_same op arithmetic.Add _ _ _ _ h.0 (same_term x left h.1) (same_term y right h.2)
    same_term (Binary' op p x q y) (Subtract' o left right) h =
        operands_same op arithmetic.Subtract _ _ _ _ h.0 (same_term x left h.1) (same_term y right h.2)
    same_term (Binary' op p x q y) (Multiply' o left right) h =
        operands_same op arithmetic.Multiply _ _ _ _ h.0 (same_term x left h.1) (same_term y right h.2)
    same_term (Binary' op p x q y) (Calculated' operation o left right) h =
        operands_same op operation _ _ _ _ h.0 (same_term x left h.1) (same_term y right h.2)
    same_term _ _ h = absurd h

  compared_same : (op relation : Relation) (a b c d : Result ℤ Fault) → op ≡ relation → a ≡ c → b ≡ d
      → both (related_number relation) a b ≡ of_truth (both (λ x y. Ok (compared op x y)) c d)
  compared_same op relation a b c d e left right = (λ i. both (related_number (sym e i)) (left i) (right i)) ∙ related_same op c d

  pub same_test : (x : Condition) (t : Term) → IsTest plan x t → term_value registers t ≡ of_truth (truth_in cells x)
  same_test (condition.Constant b) (Register r) h = constant_same r (truth_number b) h
  same_test (condition.Element e) t h = reads_same Logical e t h ∙ element_same cells e
  same_test (condition.Not' p x) (Not' q t) h = ap (λ r. given r (λ z. Ok (negation z))) (same_test x t h) ∙ not_same (truth_in cells x)
  same_test (Related op x y) (Compared relation a b) h =
      compared_same op relation _ _ _ _ h.0 (same_term x (Register a) h.1) (same_term y (Register b) h.2)
  same_test (Related op x y) (Related' relation p left right) h =
      compared_same op relation _ _ _ _ h.0 (same_term x left h.1) (same_term y right h.2)
  same_test (condition.Connected' op p x q y) (Connected' connective o left right) h =
      (λ i. both (connected_number (sym h.0 i)) (same_test x left h.1 i) (same_test y right h.2 i)) ∙ connected_same op (truth_in cells x) (truth_in cells y)
  same_test _ _ h = absurd h
