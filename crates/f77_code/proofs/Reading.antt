-- What registers stand for, and the elements of arrays.
use Rattle.f77_code.proofs.Common.{◌≡◌, ◌∙◌, ap, sym, arith, ℕ, refl, subst, length, true, ◌+◌, List, ◌<◌, false, [], suc, ◌∷◌, zero, Bool, ℤ, ◌≤◌, pos, Ok}
use Rattle.f77_code.proofs.Common.{Result, w64, Err, ◌*◌, negsuc, nat_lt, get_or, lt-ltb, ◌<ℤ◌, ◌==◌, eqb-true, ◌≤ℤ◌, le-ltb, of_z, ◌-ℤ◌, ◌||◌, add-zero}
use Rattle.f77_code.proofs.Common.{and_parts, ints, encodes_value, Within, encodes_fault, within, Encodes, IsValueOrFault, code, fits, given, element, Fault}
use Rattle.f77_code.proofs.Common.{BadSubscript, Undefined, Overflow, register, are_held, matrix_place, is_held, element_at, decoded, IsOffset}
use Rattle.f77_code.proofs.Common.{misplaced_in_matrix}

either : (a b : Bool) → (a || b) ≡ true → b ≡ false → a ≡ true
either true b h e = refl
either false b h e = absurd (cc (h, e))

pub held_encodes : (z : ℤ) → is_held z ≡ true → Encodes z (decoded z)
held_encodes (pos n) h = by (n == 1099511627776) refl
  where
    by : (b : Bool) → (n == 1099511627776) ≡ b → Encodes (pos n) (decoded (pos n))
    by true e =
        let same : n ≡ 1099511627776 = eqb-true n 1099511627776 e in
        rw e (subst (λ k. Encodes (pos k) (Err Undefined)) (sym same) (encodes_fault Undefined))
    by false e = rw e (encodes_value (pos n) (either (fits (pos n)) (n == 1099511627776) h e))
held_encodes (negsuc n) h = encodes_value (negsuc n) h

pub read_encodes : (registers : List ℤ) (r : ℕ) → are_held registers ≡ true → r < length registers → Encodes (get_or registers r (pos 0)) (register registers r)
read_encodes [] r h below = absurd (omega arith)
read_encodes (z ∷ zs) zero h below = held_encodes z (and_parts (is_held z) (are_held zs) h).0
read_encodes (z ∷ zs) (suc r) h below = read_encodes zs r (and_parts (is_held z) (are_held zs) h).1 (omega arith)

pub overflow_encodes : Encodes (pos 1099511627777) (Err Overflow)
overflow_encodes = encodes_fault Overflow

pub offset_is : (s : ℤ) → IsValueOrFault s → IsOffset s (of_z w64 (s -ℤ pos 1))
offset_is (pos zero) t = omega (arith, ints)
offset_is (pos (suc n)) t = omega (arith, ints)
offset_is (negsuc n) t = let low = t.low in omega (arith, ints)

pub in_matrix : (rows columns row column : ℕ) → row < rows → column < columns → row + rows * column < rows * columns
in_matrix rows columns row column a b = grind arith

far : (s z : ℤ) (k : ℕ) → s ≡ z → IsOffset s k → IsOffset z k
far s z k e o = subst (λ z. IsOffset z k) e o

fault_far : (f : Fault) (k : ℕ) → IsOffset (pos (code f)) k → 4294967296 ≤ k
fault_far f k o = by (code f) (omega arith) o
  where
    by : (n : ℕ) → 1099511627776 ≤ n → IsOffset (pos n) k → 4294967296 ≤ k
    by zero l o = omega arith
    by (suc n) l o = omega arith

-- the fault of a reference by two subscripts
pub bad_row : (x y : ℤ) → pos 1099511627776 ≤ℤ x → (r q : Result ℤ Fault) → Encodes x r → Encodes y q → Encodes x (misplaced_in_matrix r q)
bad_row x y h (Ok z) q a b = let w : Within z = within z a.fitting in absurd (omega (arith, ints))
bad_row x y h (Err f) q a b = a

pub bad_column : (x y : ℤ) → x <ℤ pos 1099511627776 → pos 1099511627776 ≤ℤ y → (r q : Result ℤ Fault) → Encodes x r → Encodes y q → Encodes y (misplaced_in_matrix r q)
bad_column x y l h (Ok z) (Ok v) a b = let w : Within v = within v b.fitting in absurd (omega (arith, ints))
bad_column x y l h (Ok z) (Err f) a b = b
bad_column x y l h (Err f) q a b = let e : x ≡ pos (code f) = a.is in absurd (omega (arith, ints))

pub bad_neither : (x y : ℤ) → x <ℤ pos 1099511627776 → y <ℤ pos 1099511627776 → (r q : Result ℤ Fault) → Encodes x r → Encodes y q
    → Encodes (pos 1099511627778) (misplaced_in_matrix r q)
bad_neither x y l h (Ok z) (Ok v) a b = encodes_fault BadSubscript
bad_neither x y l h (Ok z) (Err f) a b = let e : y ≡ pos (code f) = b.is in absurd (omega (arith, ints))
bad_neither x y l h (Err f) q a b = let e : x ≡ pos (code f) = a.is in absurd (omega (arith, ints))

-- a subscript whose offset is this, and where it is within a bound
subscript_in : (s z : ℤ) (k bound : ℕ) → s ≡ z → IsOffset s k → k < bound → bound < 4294967296 → element (bound ∷ []) (z ∷ []) ≡ Ok (k + bound * 0)
subscript_in s (pos zero) k bound e o below small = let h = far s (pos zero) k e o in absurd (omega arith)
subscript_in s (negsuc n) k bound e o below small = let h = far s (negsuc n) k e o in absurd (omega arith)
subscript_in s (pos (suc n)) k bound e o below small =
    let h : k ≡ n = far s (pos (suc n)) k e o in
    let test : nat_lt n bound ≡ true = lt-ltb n bound (omega arith) in
    rw test (ap (λ j. Ok (j + bound * 0)) (sym h))

subscript_out : (s z : ℤ) (k bound : ℕ) → s ≡ z → IsOffset s k → bound ≤ k → element (bound ∷ []) (z ∷ []) ≡ Err BadSubscript
subscript_out s (pos zero) k bound e o above = refl
subscript_out s (negsuc n) k bound e o above = refl
subscript_out s (pos (suc n)) k bound e o above =
    let h : k ≡ n = far s (pos (suc n)) k e o in let test : nat_lt n bound ≡ false = le-ltb n bound (omega arith) in rw test refl

-- the row goes before the column
by_column : (rows columns i : ℕ) (s z w : ℤ) → s ≡ z → IsOffset s i → i < rows → rows < 4294967296
    → element (rows ∷ (columns ∷ [])) (z ∷ (w ∷ [])) ≡ given (element (columns ∷ []) (w ∷ [])) (λ rest. Ok (i + rows * rest))
by_column rows columns i s (pos zero) w e o below small = let h = far s (pos zero) i e o in absurd (omega arith)
by_column rows columns i s (negsuc n) w e o below small = let h = far s (negsuc n) i e o in absurd (omega arith)
by_column rows columns i s (pos (suc n)) w e o below small =
    let h : i ≡ n = far s (pos (suc n)) i e o in
    let test : nat_lt n rows ≡ true = lt-ltb n rows (omega arith) in
    rw test (ap (λ j. given (element (columns ∷ []) (w ∷ [])) (λ rest. Ok (j + rows * rest))) (sym h))

no_row : (rows columns i : ℕ) (s z w : ℤ) → s ≡ z → IsOffset s i → rows ≤ i → element (rows ∷ (columns ∷ [])) (z ∷ (w ∷ [])) ≡ Err BadSubscript
no_row rows columns i s (pos zero) w e o above = refl
no_row rows columns i s (negsuc n) w e o above = refl
no_row rows columns i s (pos (suc n)) w e o above =
    let h : i ≡ n = far s (pos (suc n)) i e o in let test : nat_lt n rows ≡ false = le-ltb n rows (omega arith) in rw test refl

module _ (registers : List ℤ) (first rows columns i : ℕ) (x y : ℤ) (row : IsOffset x i) where
  -- an element whose row is not there
  pub matrix_above : (u : ℤ) → rows ≤ i → (r q : Result ℤ Fault) → Encodes x r → Encodes y q → Encodes u (misplaced_in_matrix r q)
      → Encodes u (element_at registers first (matrix_place rows columns r q))
  matrix_above u above (Ok z) (Ok w) a b t =
      subst (λ p. Encodes u (element_at registers first p)) (sym (no_row rows columns i x z w a.is row above)) t
  matrix_above u above (Ok z) (Err f) a b t = t
  matrix_above u above (Err f) q a b t = t

  -- one whose column is not there
  pub matrix_beyond : (j : ℕ) (u : ℤ) → IsOffset y j → i < rows → rows < 4294967296 → columns ≤ j
      → (r q : Result ℤ Fault) → Encodes x r → Encodes y q → Encodes u (misplaced_in_matrix r q) → Encodes u (element_at registers first (matrix_place rows columns r q))
  matrix_beyond j u column inside small above (Ok z) (Ok w) a b t =
      let first_row = by_column rows columns i x z w a.is row inside small in
      let none = subscript_out y w j columns b.is column above in
      subst (λ p. Encodes u (element_at registers first p)) (sym (first_row ∙ ap (λ k. given k (λ rest. Ok (i + rows * rest))) none)) t
  matrix_beyond j u column inside small above (Ok z) (Err f) a b t = t
  matrix_beyond j u column inside small above (Err f) q a b t = t

  -- the element of two subscripts within their bounds
  pub matrix_read : (j k : ℕ) (u : ℤ) → IsOffset y j → i < rows → j < columns → rows < 4294967296 → columns < 4294967296 → k ≡ i + rows * j
      → (r q : Result ℤ Fault) → Encodes x r → Encodes y q → Encodes u (register registers (first + k))
      → Encodes u (element_at registers first (matrix_place rows columns r q))
  matrix_read j k u column inside below small few is (Ok z) (Ok w) a b t =
      let first_row = by_column rows columns i x z w a.is row inside small in
      let one = subscript_in y w j columns b.is column below few in
      let place : element (rows ∷ (columns ∷ [])) (z ∷ (w ∷ [])) ≡ Ok (i + rows * (j + columns * 0)) =
      first_row ∙ ap (λ k. given k (λ rest. Ok (i + rows * rest))) one in
      let none : columns * 0 ≡ 0 = omega arith in
      let here : first + k ≡ first + (i + rows * (j + columns * 0)) = rw none (ap (λ n. first + n) (is ∙ ap (λ n. i + rows * n) (sym (add-zero j)))) in
      subst (λ p. Encodes u (element_at registers first p)) (sym place) (subst (λ n. Encodes u (register registers n)) here t)
  matrix_read j k u column inside below small few is (Ok z) (Err f) a b t =
      let h = fault_far f j (far y (pos (code f)) j b.is column) in absurd (omega arith)
  matrix_read j k u column inside below small few is (Err f) q a b t =
      let h = fault_far f i (far x (pos (code f)) i a.is row) in absurd (omega arith)
