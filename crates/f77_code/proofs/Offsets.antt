-- How far elements are from the first one of their array, by their subscripts.
use Rattle.f77_code.proofs.Common.{◌≡◌, ap, sym, arith, ℕ, refl, subst, true, ◌+◌, ◌<◌, false, suc, zero, ℤ, ◌≤◌, pos, Ok, Result, Err, ◌*◌, negsuc, nat_lt}
use Rattle.f77_code.proofs.Common.{lt-ltb, le-ltb, Encodes, code, Fault, BadSubscript, matrix_place, vector_place, IsOffset}

far : (s z : ℤ) (k : ℕ) → s ≡ z → IsOffset s k → IsOffset z k
far s z k e o = subst (λ z. IsOffset z k) e o

fault_far : (f : Fault) (k : ℕ) → IsOffset (pos (code f)) k → 4294967296 ≤ k
fault_far f k o = by (code f) (omega arith) o
  where
    by : (n : ℕ) → 1099511627776 ≤ n → IsOffset (pos n) k → 4294967296 ≤ k
    by zero l o = omega arith
    by (suc n) l o = omega arith

-- a subscript that is not beyond all bounds
pub subscript_of : (s : ℤ) (k : ℕ) → IsOffset s k → k < 4294967296 → (r : Result ℤ Fault) → Encodes s r → r ≡ Ok (pos (suc k))
subscript_of s k o small (Ok (pos zero)) a = let h = far s (pos zero) k a.is o in absurd (omega arith)
subscript_of s k o small (Ok (negsuc n)) a = let h = far s (negsuc n) k a.is o in absurd (omega arith)
subscript_of s k o small (Err f) a = let h = fault_far f k (far s (pos (code f)) k a.is o) in absurd (omega arith)
subscript_of s k o small (Ok (pos (suc n))) a = let h : k ≡ n = far s (pos (suc n)) k a.is o in ap (λ j. Ok (pos (suc j))) (sym h)

-- the place of an element of one dimension
pub vector_within : (bound k : ℕ) (s : ℤ) → IsOffset s k → k < bound → bound < 4294967296 → (r : Result ℤ Fault) → Encodes s r → vector_place bound r ≡ Ok k
vector_within bound k s o below small r a = rw (subscript_of s k o (omega arith) r a) (at (lt-ltb k bound below))
  where
    at : nat_lt k bound ≡ true → vector_place bound (Ok (pos (suc k))) ≡ Ok k
    at test = rw test (ap Ok (omega arith))

-- a subscript that names none
pub vector_beyond : (bound k : ℕ) (s : ℤ) → IsOffset s k → bound ≤ k → (r : Result ℤ Fault) → Encodes s r → (f : Fault) × (vector_place bound r ≡ Err f)
vector_beyond bound k s o above (Ok (pos zero)) a = (BadSubscript, refl)
vector_beyond bound k s o above (Ok (negsuc n)) a = (BadSubscript, refl)
vector_beyond bound k s o above (Err f) a = (f, refl)
vector_beyond bound k s o above (Ok (pos (suc n))) a =
    let h : k ≡ n = far s (pos (suc n)) k a.is o in
    let test : nat_lt n bound ≡ false = le-ltb n bound (omega arith) in
    (BadSubscript, rw test refl)

-- the place of an element of two dimensions
pub matrix_within : (rows columns i j : ℕ) (s t : ℤ) → IsOffset s i → IsOffset t j → i < rows → j < columns → rows < 4294967296 → columns < 4294967296
    → (r q : Result ℤ Fault) → Encodes s r → Encodes t q → matrix_place rows columns r q ≡ Ok (i + rows * j)
matrix_within rows columns i j s t o p down across small few r q a b =
    rw (subscript_of s i o (omega arith) r a, subscript_of t j p (omega arith) q b) (at (lt-ltb i rows down) (lt-ltb j columns across))
  where
    at : nat_lt i rows ≡ true → nat_lt j columns ≡ true → matrix_place rows columns (Ok (pos (suc i))) (Ok (pos (suc j))) ≡ Ok (i + rows * j)
    at first second = rw (first, second) (ap (λ k. Ok (i + rows * k)) (omega arith))

-- a row that names none
pub row_beyond : (rows columns i : ℕ) (s t : ℤ) → IsOffset s i → rows ≤ i → (r q : Result ℤ Fault) → Encodes s r → Encodes t q
    → (f : Fault) × (matrix_place rows columns r q ≡ Err f)
row_beyond rows columns i s t o above (Err f) q a b = (f, refl)
row_beyond rows columns i s t o above (Ok z) (Err f) a b = (f, refl)
row_beyond rows columns i s t o above (Ok (pos zero)) (Ok w) a b = (BadSubscript, refl)
row_beyond rows columns i s t o above (Ok (negsuc n)) (Ok w) a b = (BadSubscript, refl)
row_beyond rows columns i s t o above (Ok (pos (suc n))) (Ok w) a b =
    let h : i ≡ n = far s (pos (suc n)) i a.is o in
    let test : nat_lt n rows ≡ false = le-ltb n rows (omega arith) in
    (BadSubscript, rw test refl)

-- a column that names none
pub column_beyond : (rows columns i j : ℕ) (s t : ℤ) → IsOffset s i → i < rows → rows < 4294967296 → IsOffset t j → columns ≤ j → (r q : Result ℤ Fault) → Encodes s r → Encodes t q
    → (f : Fault) × (matrix_place rows columns r q ≡ Err f)
column_beyond rows columns i j s t o down few p above r q a b = rw (subscript_of s i o (omega arith) r a) (by q b)
  where
    test : nat_lt i rows ≡ true
    test = lt-ltb i rows down

    by : (q : Result ℤ Fault) → Encodes t q → (f : Fault) × (matrix_place rows columns (Ok (pos (suc i))) q ≡ Err f)
    by (Err f) b = (f, refl)
    by (Ok (pos zero)) b = (BadSubscript, rw test refl)
    by (Ok (negsuc m)) b = (BadSubscript, rw test refl)
    by (Ok (pos (suc m))) b =
        let h : j ≡ m = far t (pos (suc m)) j b.is p in
        let beyond : nat_lt m columns ≡ false = le-ltb m columns (omega arith) in
        (BadSubscript, rw (test, beyond) refl)
