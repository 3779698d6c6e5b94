-- The value of a term is in the range of INTEGER.
use Rattle.f77_code.proofs.Common.{◌≡◌, ℕ, refl, true, ◌+◌, List, false, [], suc, ◌∷◌, zero, Bool, ℤ, pos, Ok, Result, Err, negsuc, not, ◌+ℤ◌, cond, ◌-ℤ◌}
use Rattle.f77_code.proofs.Common.{int_div, int_rem, ◌*ℤ◌, and_parts, fits_truth, negation, is_fitting, is_same, fits, in_range, negated, without_sign}
use Rattle.f77_code.proofs.Common.{exact_power, is_below, given, both, pushed, Connective, Relation, Fault, term_value, register, are_held, matrix_place}
use Rattle.f77_code.proofs.Common.{is_held, related_number, vector_place, connected_number, element_at, calculated, compared, Term, Compared, Related'}
use Rattle.f77_code.proofs.Common.{Register, Absolute', Add', Calculated', Connected', Difference, Element, Matrix', MatrixAt, Multiply', Negated', Not'}
use Rattle.f77_code.proofs.Common.{Product, Subtract', Sum, TooLarge, Vector', ZeroPush'}
use Rattle.f77_actions.specs.declared.expression.Arithmetic.{Arithmetic}
use Rattle.f77_actions.specs.declared.expression.Arithmetic.TheVariants as arithmetic
use Rattle.f77_actions.specs.declared.expression.Connective.TheVariants as connective
use Rattle.f77_code.proofs.Reading.{held_encodes}

range_fits : (z : ℤ) → is_fitting (in_range z) ≡ true
range_fits z = by (fits z) refl
  where
    by : (b : Bool) → fits z ≡ b → is_fitting (in_range z) ≡ true
    by true e = rw e e
    by false e = rw e refl

choice_fits : (b : Bool) (x y : ℤ) → fits x ≡ true → fits y ≡ true → fits (cond b x y) ≡ true
choice_fits true x y f g = f
choice_fits false x y f g = g

-- an operation on values in the range gives one there, or a fault
calculated_fits : (op : Arithmetic) (x y : ℤ) → fits x ≡ true → fits y ≡ true → is_fitting (calculated op x y) ≡ true
calculated_fits arithmetic.Add x y f g = range_fits (x +ℤ y)
calculated_fits arithmetic.Subtract x y f g = range_fits (x -ℤ y)
calculated_fits arithmetic.Multiply x y f g = range_fits (x *ℤ y)
calculated_fits arithmetic.Divide x (pos zero) f g = refl
calculated_fits arithmetic.Divide x (pos (suc n)) f g = range_fits (int_div x (pos (suc n)))
calculated_fits arithmetic.Divide x (negsuc n) f g = range_fits (int_div x (negsuc n))
calculated_fits arithmetic.Power (pos zero) (pos zero) f g = refl
calculated_fits arithmetic.Power (pos zero) (pos (suc n)) f g = refl
calculated_fits arithmetic.Power (pos zero) (negsuc n) f g = refl
calculated_fits arithmetic.Power (pos (suc a)) (pos n) f g = range_fits (exact_power (pos (suc a)) n)
calculated_fits arithmetic.Power (pos (suc a)) (negsuc n) f g = range_fits (int_div (pos 1) (exact_power (pos (suc a)) (suc n)))
calculated_fits arithmetic.Power (negsuc a) (pos n) f g = range_fits (exact_power (negsuc a) n)
calculated_fits arithmetic.Power (negsuc a) (negsuc n) f g = range_fits (int_div (pos 1) (exact_power (negsuc a) (suc n)))
calculated_fits arithmetic.Modulus x (pos zero) f g = refl
calculated_fits arithmetic.Modulus x (pos (suc n)) f g = range_fits (int_rem x (pos (suc n)))
calculated_fits arithmetic.Modulus x (negsuc n) f g = range_fits (int_rem x (negsuc n))
calculated_fits arithmetic.Least x y f g = choice_fits (is_below y x) y x g f
calculated_fits arithmetic.Greatest x y f g = choice_fits (is_below x y) y x g f

related_fits : (op : Relation) (x y : ℤ) → fits x ≡ true → fits y ≡ true → is_fitting (related_number op x y) ≡ true
related_fits op x y f g = fits_truth (compared op x y)

connected_fits : (op : Connective) (x y : ℤ) → fits x ≡ true → fits y ≡ true → is_fitting (connected_number op x y) ≡ true
connected_fits connective.And x y f g = choice_fits (is_same x (pos 0)) x y f g
connected_fits connective.Or x y f g = choice_fits (is_same x (pos 0)) y x g f
connected_fits connective.Equivalent x y f g = fits_truth (is_same x y)
connected_fits connective.NotEquivalent x y f g = fits_truth (not (is_same x y))

pushed_fits : (z : ℤ) → fits z ≡ true → is_fitting (pushed z) ≡ true
pushed_fits (pos zero) f = refl
pushed_fits (pos (suc n)) f = f
pushed_fits (negsuc n) f = f

both_fit : (op : ℤ → ℤ → Result ℤ Fault) → ((x y : ℤ) → fits x ≡ true → fits y ≡ true → is_fitting (op x y) ≡ true)
    → (r q : Result ℤ Fault) → is_fitting r ≡ true → is_fitting q ≡ true → is_fitting (both op r q) ≡ true
both_fit op keeps (Ok x) (Ok y) f g = keeps x y f g
both_fit op keeps (Ok x) (Err e) f g = refl
both_fit op keeps (Err e) q f g = refl

given_fits : (op : ℤ → Result ℤ Fault) → ((x : ℤ) → fits x ≡ true → is_fitting (op x) ≡ true) → (r : Result ℤ Fault) → is_fitting r ≡ true → is_fitting (given r op) ≡ true
given_fits op keeps (Ok x) f = keeps x f
given_fits op keeps (Err e) f = refl

pub register_fits : (registers : List ℤ) (k : ℕ) → are_held registers ≡ true → is_fitting (register registers k) ≡ true
register_fits [] k held = refl
register_fits (z ∷ zs) zero held = let t = held_encodes z (and_parts (is_held z) (are_held zs) held).0 in t.fitting
register_fits (z ∷ zs) (suc k) held = register_fits zs k (and_parts (is_held z) (are_held zs) held).1

module _ (registers : List ℤ) (held : are_held registers ≡ true) where
  element_fits : (first : ℕ) (place : Result ℕ Fault) → is_fitting (element_at registers first place) ≡ true
  element_fits first (Ok k) = register_fits registers (first + k) held
  element_fits first (Err e) = refl

  pub term_fits : (t : Term) → is_fitting (term_value registers t) ≡ true
  term_fits (Register r) = register_fits registers r held
  term_fits (Element first bound s) = element_fits first (vector_place bound (register registers s))
  term_fits (MatrixAt first rows columns row column) = element_fits first (matrix_place rows columns (register registers row) (register registers column))
  term_fits (Sum a b) = both_fit (calculated arithmetic.Add) (calculated_fits arithmetic.Add) (register registers a) (register registers b)
      (register_fits registers a held) (register_fits registers b held)
  term_fits (Difference a b) = both_fit (calculated arithmetic.Subtract) (calculated_fits arithmetic.Subtract) (register registers a)
      (register registers b) (register_fits registers a held) (register_fits registers b held)
  term_fits (Product a b) = both_fit (calculated arithmetic.Multiply) (calculated_fits arithmetic.Multiply) (register registers a)
      (register registers b) (register_fits registers a held) (register_fits registers b held)
  term_fits (Compared op a b) = both_fit (related_number op) (related_fits op) (register registers a) (register registers b) (register_fits registers a held) (register_fits registers b held)
  term_fits TooLarge = refl
  term_fits (Vector' first bound p t) = element_fits first (vector_place bound (term_value registers t))
  term_fits (Matrix' first rows columns p row column) =
      element_fits first (matrix_place rows columns (term_value registers row) (term_value registers column))
  term_fits (Add' p left right) = both_fit (calculated arithmetic.Add) (calculated_fits arithmetic.Add) (term_value registers left) (term_value registers right) (term_fits left) (term_fits right)
  term_fits (Subtract' p left right) = both_fit (calculated arithmetic.Subtract) (calculated_fits arithmetic.Subtract) (term_value registers left)
      (term_value registers right) (term_fits left) (term_fits right)
  term_fits (Multiply' p left right) = both_fit (calculated arithmetic.Multiply) (calculated_fits arithmetic.Multiply) (term_value registers left)
      (term_value registers right) (term_fits left) (term_fits right)
  term_fits (Calculated' op p left right) = both_fit (calculated op) (calculated_fits op) (term_value registers left) (term_value registers right) (term_fits left) (term_fits right)
  term_fits (Negated' p t) = given_fits (λ z. in_range (negated z)) (λ x f. range_fits (negated x)) (term_value registers t) (term_fits t)
  term_fits (Absolute' p t) = given_fits (λ z. in_range (without_sign z)) (λ x f. range_fits (without_sign x)) (term_value registers t) (term_fits t)
  term_fits (ZeroPush' p t) = given_fits pushed pushed_fits (term_value registers t) (term_fits t)
  term_fits (Related' op p left right) = both_fit (related_number op) (related_fits op) (term_value registers left) (term_value registers right) (term_fits left) (term_fits right)
  term_fits (Connected' op p left right) = both_fit (connected_number op) (connected_fits op) (term_value registers left) (term_value registers right) (term_fits left) (term_fits right)
  term_fits (Not' p t) = given_fits (λ z. Ok (negation z)) (λ x f. fits_truth (is_same x (pos 0))) (term_value registers t) (term_fits t)
