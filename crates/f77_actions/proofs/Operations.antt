-- Operations whose operands are values: those on numbers of 32 bits, and the choices of one of two.
use Rattle.f77_actions.proofs.Common.{Ok, arith, ◌≡◌, pos, sym, ℤ, false, negsuc, true, ◌∙◌, Bool, ◌^◌, ◌≤ℤ◌, Result, if◌then◌else◌, lt-ltb, subst, ints, fits}
use Rattle.f77_actions.proofs.Common.{Encodes, IsValueOrFault, HasValue, Fault}
use Rattle.f77_actions.proofs.Bounds.{encodes_value}

pub narrowed : (f : ℤ → ℤ → Result ℤ Fault) (u x y v w : ℤ) (o : Result ℤ Fault) → Encodes u o → o ≡ f v w → (HasValue x → v ≡ x) → (HasValue y → w ≡ y)
    → HasValue x → HasValue y → Encodes u (f x y)
narrowed f u x y v w o t is left right m n = subst (λ r. Encodes u r) (is ∙ (λ i. f (left m i) (right n i))) t

fits_between : (z : ℤ) → negsuc 2147483647 ≤ℤ z → z ≤ℤ pos 2147483647 → fits z ≡ true
fits_between (pos n) l h = lt-ltb n (2 ^ 31) (omega (arith, ints))
fits_between (negsuc n) l h = lt-ltb n (2 ^ 31) (omega (arith, ints))

pub value_fits : (z : ℤ) → IsValueOrFault z → HasValue z → fits z ≡ true
value_fits z t h = fits_between z t.low (t.gap h)

pub encodes_chosen : (b : Bool) (x y z : ℤ) → IsValueOrFault x → IsValueOrFault y → z ≡ (if b then y else x) → HasValue x → HasValue y → Encodes z (Ok (if b then y else x))
encodes_chosen true x y z s t is m n = subst (λ w. Encodes w (Ok y)) (sym is) (encodes_value y (value_fits y t n))
encodes_chosen false x y z s t is m n = subst (λ w. Encodes w (Ok x)) (sym is) (encodes_value x (value_fits x s m))
