-- What functions that perform operations answer: points.
use Rattle.f77_code.proofs.Common.{◌≡◌, ◌∙◌, ap, sym, arith, ℕ, refl, subst, true, ◌+◌, List, Some, ◌<◌, slice_get, false, [], suc, ◌∷◌, zero, Bool, ℤ, ◌≤◌}
use Rattle.f77_code.proofs.Common.{pos, None, FitsSigned, Ok, Result, w64, Err, slice_set, ◌*◌, if◌then◌else◌, negsuc, nat_lt, ◌-◌, lt-ltb, unwrap_or, ◌<ℤ◌}
use Rattle.f77_code.proofs.Common.{w32, ◌≤ℤ◌, of_z, ◌^◌, add-one, to_z, ◌%◌, ints, at_least, encodes_value, Within, within, valid_code, valid_value, Encodes}
use Rattle.f77_code.proofs.Common.{IsValueOrFault, code, is_same, fits, trip_count, given, element, Fault, BadSubscript, ZeroStep, Failed, point, Point}
use Rattle.f77_code.proofs.Common.{matrix_place, passed, ended_point, vector_place, branch, by_sign, item_chosen, one_less, put_in_register, begun_in_code}
use Rattle.f77_code.proofs.Common.{put_at, used_in_code, IsOffset, misplaced_in_matrix, Turn}
use Rattle.std.proofs.Math.Dec.{eqb-suc-zero}
use lib.Signed.{le_z, lt_z}
use Rattle.f77_code.proofs.Offsets.{vector_within, vector_beyond, matrix_within, row_beyond, column_beyond}

-- the result that a number stands for where it is a value
pub has_value : (x : ℤ) → x <ℤ pos 1099511627776 → (r : Result ℤ Fault) → Encodes x r → r ≡ Ok x
has_value x h (Ok z) a = ap Ok (sym a.is)
has_value x h (Err f) a = let e : x ≡ pos (code f) = a.is in absurd (omega (arith, ints))

-- the end by the fault that a number stands for
pub fails : (p : ℕ) (registers : List ℤ) (turns : List Turn) (x : ℤ) → pos 1099511627776 ≤ℤ x → ((f : Fault) → Encodes x (Err f) → p ≡ ended_point (Failed f))
    → (on : ℤ → Point) (r : Result ℤ Fault) → Encodes x r → point p registers turns ≡ used_in_code r registers turns on
fails p registers turns x h e on (Ok z) a = let w : Within z = within z a.fitting in absurd (omega (arith, ints))
fails p registers turns x h e on (Err f) a = ap (λ q. point q registers turns) (e f a)

pub goes : (registers : List ℤ) (turns : List Turn) (x : ℤ) → x <ℤ pos 1099511627776 → (on : ℤ → Point) (r : Result ℤ Fault) → Encodes x r
    → on x ≡ used_in_code r registers turns on
goes registers turns x h on r a = ap (λ r. used_in_code r registers turns on) (sym (has_value x h r a))

-- a value is put in an element of one dimension
pub element_put : (first bound k next p : ℕ) (registers after : List ℤ) (turns : List Turn) (s : ℤ) (value : Result ℤ Fault)
    → IsOffset s k → k < bound → bound < 4294967296 → (r : Result ℤ Fault) → Encodes s r
    → point p after turns ≡ put_in_register (first + k) value next registers turns → point p after turns ≡ put_at first (vector_place bound r) value next registers turns
element_put first bound k next p registers after turns s value o below small r a did = rw (vector_within bound k s o below small r a) did

pub element_fails : (first bound k next p : ℕ) (registers : List ℤ) (turns : List Turn) (s : ℤ) (value : Result ℤ Fault) → IsOffset s k → bound ≤ k
    → ((b : ℕ) (r : Result ℤ Fault) (f : Fault) → Encodes s r → vector_place b r ≡ Err f → p ≡ ended_point (Failed f))
    → (r : Result ℤ Fault) → Encodes s r → point p registers turns ≡ put_at first (vector_place bound r) value next registers turns
element_fails first bound k next p registers turns s value o above e r a =
    let bad = vector_beyond bound k s o above r a in rw bad.1 (ap (λ q. point q registers turns) (e bound r bad.0 a bad.1))

-- in one of two dimensions
pub matrix_put : (first rows columns i j next p : ℕ) (registers after : List ℤ) (turns : List Turn) (s t : ℤ) (value : Result ℤ Fault)
    → IsOffset s i → IsOffset t j → i < rows → j < columns → rows < 4294967296 → columns < 4294967296
    → (r q : Result ℤ Fault) → Encodes s r → Encodes t q → point p after turns ≡ put_in_register (first + (i + rows * j)) value next registers turns
    → point p after turns ≡ put_at first (matrix_place rows columns r q) value next registers turns
matrix_put first rows columns i j next p registers after turns s t value o u down across small few r q a b did =
    rw (matrix_within rows columns i j s t o u down across small few r q a b) did

pub row_fails : (first rows columns i next p : ℕ) (registers : List ℤ) (turns : List Turn) (s t : ℤ) (value : Result ℤ Fault) → IsOffset s i → rows ≤ i
    → ((m n : ℕ) (r q : Result ℤ Fault) (f : Fault) → Encodes s r → Encodes t q → matrix_place m n r q ≡ Err f → p ≡ ended_point (Failed f))
    → (r q : Result ℤ Fault) → Encodes s r → Encodes t q → point p registers turns ≡ put_at first (matrix_place rows columns r q) value next registers turns
row_fails first rows columns i next p registers turns s t value o above e r q a b =
    let bad = row_beyond rows columns i s t o above r q a b in rw bad.1 (ap (λ z. point z registers turns) (e rows columns r q bad.0 a b bad.1))

pub column_fails : (first rows columns i j next p : ℕ) (registers : List ℤ) (turns : List Turn) (s t : ℤ) (value : Result ℤ Fault)
    → IsOffset s i → i < rows → rows < 4294967296 → IsOffset t j → columns ≤ j
    → ((m n : ℕ) (r q : Result ℤ Fault) (f : Fault) → Encodes s r → Encodes t q → matrix_place m n r q ≡ Err f → p ≡ ended_point (Failed f))
    → (r q : Result ℤ Fault) → Encodes s r → Encodes t q → point p registers turns ≡ put_at first (matrix_place rows columns r q) value next registers turns
column_fails first rows columns i j next p registers turns s t value o down small u above e r q a b =
    let bad = column_beyond rows columns i j s t o down small u above r q a b in
    rw bad.1 (ap (λ z. point z registers turns) (e rows columns r q bad.0 a b bad.1))

-- a truth value decides where control goes
pub branch_zero : (there next : ℕ) (registers : List ℤ) (turns : List Turn) (x : ℤ) → x ≡ pos 0 → (r : Result ℤ Fault) → Encodes x r
    → point next registers turns ≡ branch r there next registers turns
branch_zero there next registers turns x h (Ok (pos zero)) a = refl
branch_zero there next registers turns x h (Ok (pos (suc n))) a = let e : x ≡ pos (suc n) = a.is in absurd (omega (arith, ints))
branch_zero there next registers turns x h (Ok (negsuc n)) a = let e : x ≡ negsuc n = a.is in absurd (omega (arith, ints))
branch_zero there next registers turns x h (Err f) a = let e : x ≡ pos (code f) = a.is in absurd (omega (arith, ints))

pub branch_there : (there next : ℕ) (registers : List ℤ) (turns : List Turn) (x : ℤ) → x <ℤ pos 1099511627776 → (x ≡ pos 0 → ⊥) → (r : Result ℤ Fault) → Encodes x r
    → point there registers turns ≡ branch r there next registers turns
branch_there there next registers turns x l h (Ok (pos zero)) a = absurd (h a.is)
branch_there there next registers turns x l h (Ok (pos (suc n))) a =
    ap (λ b. point (if b then next else there) registers turns) (sym (eqb-suc-zero n))
branch_there there next registers turns x l h (Ok (negsuc n)) a = refl
branch_there there next registers turns x l h (Err f) a = let e : x ≡ pos (code f) = a.is in absurd (omega (arith, ints))

-- where a value is zero, and where not
pub zero_next : (next : Point) (inner : Point) (x : ℤ) → x ≡ pos 0 → next ≡ (if is_same x (pos 0) then next else inner)
zero_next next inner (pos zero) h = refl
zero_next next inner (pos (suc n)) h = absurd (omega (arith, ints))
zero_next next inner (negsuc n) h = absurd (omega (arith, ints))

pub some_inner : (next : Point) (inner : Point) (x : ℤ) → (x ≡ pos 0 → ⊥) → inner ≡ (if is_same x (pos 0) then next else inner)
some_inner next inner (pos zero) h = absurd (h refl)
some_inner next inner (pos (suc n)) h = ap (λ b. if b then next else inner) (sym (eqb-suc-zero n))
some_inner next inner (negsuc n) h = refl

-- the fault of a subscript that is that of no element
pub bad_code_valid : IsValueOrFault (pos 1099511627778)
bad_code_valid = valid_code BadSubscript

pub zero_code_valid : IsValueOrFault (pos 1099511627779)
zero_code_valid = valid_code ZeroStep

vector_bad : (bound : ℕ) (z : ℤ) (f : Fault) → element (bound ∷ []) (z ∷ []) ≡ Err f → BadSubscript ≡ f
vector_bad bound (pos zero) f e = cc (e)
vector_bad bound (negsuc n) f e = cc (e)
vector_bad bound (pos (suc n)) f e = by (nat_lt n bound) refl
  where
    by : (b : Bool) → nat_lt n bound ≡ b → BadSubscript ≡ f
    by true t = let found = rw t at e in absurd (cc (found))
    by false t = let found = rw t at e in cc (found)

matrix_bad : (rows columns : ℕ) (z w : ℤ) (f : Fault) → element (rows ∷ (columns ∷ [])) (z ∷ (w ∷ [])) ≡ Err f → BadSubscript ≡ f
matrix_bad rows columns (pos zero) w f e = cc (e)
matrix_bad rows columns (negsuc n) w f e = cc (e)
matrix_bad rows columns (pos (suc n)) w f e = by (nat_lt n rows) refl
  where
    column : (o : Result ℕ Fault) → element (columns ∷ []) (w ∷ []) ≡ o → given o (λ rest. Ok (n + rows * rest)) ≡ Err f → BadSubscript ≡ f
    column (Ok k) is found = absurd (cc (found))
    column (Err g) is found = let same : g ≡ f = cc (found) in vector_bad columns w g is ∙ same

    by : (b : Bool) → nat_lt n rows ≡ b → BadSubscript ≡ f
    by true t = let found = rw t at e in column (element (columns ∷ []) (w ∷ [])) refl found
    by false t = let found = rw t at e in cc (found)

-- the fault of subscripts that name no element
pub vector_misplaced : (x : ℤ) (bound : ℕ) (r : Result ℤ Fault) (f : Fault) → Encodes x (misplaced_in_matrix r r) → vector_place bound r ≡ Err f → Encodes x (Err f)
vector_misplaced x bound (Ok z) f a e = subst (λ f. Encodes x (Err f)) (vector_bad bound z f e) a
vector_misplaced x bound (Err g) f a e = let same : g ≡ f = cc (e) in subst (λ f. Encodes x (Err f)) same a

pub matrix_misplaced : (x : ℤ) (rows columns : ℕ) (r q : Result ℤ Fault) (f : Fault) → Encodes x (misplaced_in_matrix r q) → matrix_place rows columns r q ≡ Err f
    → Encodes x (Err f)
matrix_misplaced x rows columns (Ok z) (Ok w) f a e = subst (λ f. Encodes x (Err f)) (matrix_bad rows columns z w f e) a
matrix_misplaced x rows columns (Ok z) (Err g) f a e = let same : g ≡ f = cc (e) in subst (λ f. Encodes x (Err f)) same a
matrix_misplaced x rows columns (Err g) q f a e = let same : g ≡ f = cc (e) in subst (λ f. Encodes x (Err f)) same a

-- tests of the code
pub least_from : (y : ℤ) → FitsSigned w64 y → le_z (pos 1099511627776) (to_z w64 (of_z w64 y)) ≡ true → pos 1099511627776 ≤ℤ y
least_from y f e = at_least y f e

pub below_zero : (y : ℤ) → FitsSigned w64 y → lt_z (to_z w64 (of_z w64 y)) (pos 0) ≡ true → y <ℤ pos 0
below_zero y f e = grind (arith, ints)

pub not_below_zero : (y : ℤ) → FitsSigned w64 y → lt_z (to_z w64 (of_z w64 y)) (pos 0) ≡ false → pos 0 ≤ℤ y
not_below_zero y f e = grind (arith, ints)

pub below_one : (y : ℤ) → FitsSigned w64 y → lt_z (to_z w64 (of_z w64 y)) (pos 1) ≡ true → y <ℤ pos 1
below_one y f e = grind (arith, ints)

-- the place of a number
pub numbered_none : (places : List ℕ) (next : ℕ) (z : ℤ) → z <ℤ pos 1 → next ≡ unwrap_or (item_chosen places z) next
numbered_none places next (pos zero) h = refl
numbered_none places next (pos (suc n)) h = absurd (omega (arith, ints))
numbered_none places next (negsuc n) h = refl

pub numbered_some : (places : List ℕ) (next k place : ℕ) (z : ℤ) → z ≡ pos (k + 1) → slice_get places k ≡ Some place → place ≡ unwrap_or (item_chosen places z) next
numbered_some places next k place z e at =
    let suc_k : z ≡ pos (suc k) = e ∙ ap pos (add-one k) in
    subst (λ z. place ≡ unwrap_or (item_chosen places z) next) (sym suc_k) (ap (λ o. unwrap_or o next) (sym at))

pub numbered_past : (places : List ℕ) (next k : ℕ) (z : ℤ) → z ≡ pos (k + 1) → slice_get places k ≡ None → next ≡ unwrap_or (item_chosen places z) next
numbered_past places next k z e at =
    let suc_k : z ≡ pos (suc k) = e ∙ ap pos (add-one k) in
    subst (λ z. next ≡ unwrap_or (item_chosen places z) next) (sym suc_k) (ap (λ o. unwrap_or o next) (sym at))

-- one of three places by a sign
pub by_negative : (a b c : ℕ) (x : ℤ) → x <ℤ pos 0 → a ≡ by_sign x a b c
by_negative a b c (pos n) h = absurd (omega (arith, ints))
by_negative a b c (negsuc n) h = refl

pub by_zero : (a b c : ℕ) (x : ℤ) → x ≡ pos 0 → b ≡ by_sign x a b c
by_zero a b c (pos zero) h = refl
by_zero a b c (pos (suc n)) h = absurd (omega (arith, ints))
by_zero a b c (negsuc n) h = absurd (omega (arith, ints))

pub by_positive : (a b c : ℕ) (x : ℤ) → pos 0 ≤ℤ x → (x ≡ pos 0 → ⊥) → c ≡ by_sign x a b c
by_positive a b c (pos zero) l h = absurd (h refl)
by_positive a b c (pos (suc n)) l h = refl
by_positive a b c (negsuc n) l h = absurd (omega (arith, ints))

-- passes of a DO
pub pass_none : (counter body next passes : ℕ) (step : ℤ) (registers : List ℤ) (turns : List Turn) → passes ≡ 0
    → point next registers (slice_set turns counter (record { passes = passes; step = step })) ≡ passed counter body next passes step registers turns
pass_none counter body next zero step registers turns e = refl
pass_none counter body next (suc k) step registers turns e = absurd (omega arith)

pub pass_some : (counter body next passes : ℕ) (step : ℤ) (registers : List ℤ) (turns : List Turn) → (passes ≡ 0 → ⊥)
    → point body registers (slice_set turns counter (record { passes = passes; step = step })) ≡ passed counter body next passes step registers turns
pass_some counter body next zero step registers turns e = absurd (e refl)
pass_some counter body next (suc k) step registers turns e = refl

pub begun_none : (variable counter body next p : ℕ) (a b c : ℤ) (registers : List ℤ) (turns : List Turn) → c ≡ pos 0 → p ≡ ended_point (Failed ZeroStep)
    → point p registers turns ≡ begun_in_code variable counter body next a b c registers turns
begun_none variable counter body next p a b (pos zero) registers turns e is = ap (λ q. point q registers turns) is
begun_none variable counter body next p a b (pos (suc n)) registers turns e is = absurd (omega (arith, ints))
begun_none variable counter body next p a b (negsuc n) registers turns e is = absurd (omega (arith, ints))

pub begun_some : (variable counter body next : ℕ) (a b c : ℤ) (registers : List ℤ) (turns : List Turn) → (c ≡ pos 0 → ⊥)
    → begun_in_code variable counter body next a b c registers turns
    ≡ passed counter body next (trip_count a b c) c (slice_set registers variable a) turns
begun_some variable counter body next a b (pos zero) registers turns h = absurd (h refl)
begun_some variable counter body next a b (pos (suc n)) registers turns h = refl
begun_some variable counter body next a b (negsuc n) registers turns h = refl

-- a number of 32 bits is a value
pub narrow_fits : (z : ℤ) → FitsSigned w32 z → fits z ≡ true
narrow_fits (pos n) f = let small = f.sfits in lt-ltb n (2 ^ 31) (omega (arith, ints))
narrow_fits (negsuc n) f = let small = f.sfits in lt-ltb n (2 ^ 31) (omega (arith, ints))

pub narrow_encodes : (z : ℤ) → FitsSigned w32 z → Encodes z (Ok z)
narrow_encodes z f = encodes_value z (narrow_fits z f)

pub narrow_valid : (z : ℤ) → FitsSigned w32 z → IsValueOrFault z
narrow_valid z f = valid_value z (narrow_fits z f)

-- one pass less, in 64 bits
pub less_wrapped : (passes : ℕ) → passes < 2 ^ 64 → (passes + (2 ^ 64 - 1)) % 2 ^ 64 ≡ one_less passes
less_wrapped zero h = refl
less_wrapped (suc k) h = omega arith
