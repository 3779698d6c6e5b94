-- The fault of an operation: that of its left operand, or of its right one, or its own.
use Rattle.f77_actions.proofs.Common.{Ok, arith, ◌≡◌, pos, ℤ, Err, ◌<ℤ◌, ◌≤ℤ◌, Result, subst, ints, Encodes, code, both, operation_fault, Fault, Overflow}
use Rattle.f77_actions.proofs.Bounds.{Within, within, encodes_fault}

pub unfit_left : (x y : ℤ) → pos 1099511627776 ≤ℤ x → (r q : Result ℤ Fault) → Encodes x r → Encodes y q → Encodes x (operation_fault r q)
unfit_left x y h (Ok z) q a b = let w : Within z = within z a.fitting in absurd (omega (arith, ints))
unfit_left x y h (Err f) q a b = a

pub unfit_right : (x y : ℤ) → x <ℤ pos 1099511627776 → pos 1099511627776 ≤ℤ y → (r q : Result ℤ Fault) → Encodes x r → Encodes y q → Encodes y (operation_fault r q)
unfit_right x y l h (Ok z) (Ok v) a b = let w : Within v = within v b.fitting in absurd (omega (arith, ints))
unfit_right x y l h (Ok z) (Err f) a b = b
unfit_right x y l h (Err f) q a b = let e : x ≡ pos (code f) = a.is in absurd (omega (arith, ints))

pub unfit_neither : (x y : ℤ) → x <ℤ pos 1099511627776 → y <ℤ pos 1099511627776 → (r q : Result ℤ Fault) → Encodes x r → Encodes y q → Encodes (pos 1099511627777) (operation_fault r q)
unfit_neither x y l h (Ok z) (Ok v) a b = encodes_fault Overflow
unfit_neither x y l h (Ok z) (Err f) a b = let e : y ≡ pos (code f) = b.is in absurd (omega (arith, ints))
unfit_neither x y l h (Err f) q a b = let e : x ≡ pos (code f) = a.is in absurd (omega (arith, ints))

-- an operation on a fault has that fault
pub left_none : (f : ℤ → ℤ → Result ℤ Fault) (u x y : ℤ) → pos 1099511627776 ≤ℤ x
    → (r q : Result ℤ Fault) → Encodes x r → Encodes y q → Encodes u (operation_fault r q) → Encodes u (both f r q)
left_none f u x y h (Ok z) q a b t = let w : Within z = within z a.fitting in absurd (omega (arith, ints))
left_none f u x y h (Err e) q a b t = t

pub right_none : (f : ℤ → ℤ → Result ℤ Fault) (u x y : ℤ) → pos 1099511627776 ≤ℤ y
    → (r q : Result ℤ Fault) → Encodes x r → Encodes y q → Encodes u (operation_fault r q) → Encodes u (both f r q)
right_none f u x y h r (Ok z) a b t = let w : Within z = within z b.fitting in absurd (omega (arith, ints))
right_none f u x y h (Ok z) (Err e) a b t = t
right_none f u x y h (Err d) (Err e) a b t = t

-- an operation on values
pub on_values : (f : ℤ → ℤ → Result ℤ Fault) (u x y : ℤ) → x <ℤ pos 1099511627776 → y <ℤ pos 1099511627776 → Encodes u (f x y)
    → (r q : Result ℤ Fault) → Encodes x r → Encodes y q → Encodes u (both f r q)
on_values f u x y l m t (Ok z) (Ok v) a b = subst (λ w. Encodes u w) (λ i. f (a.is i) (b.is i)) t
on_values f u x y l m t (Ok z) (Err e) a b = let is : y ≡ pos (code e) = b.is in absurd (omega (arith, ints))
on_values f u x y l m t (Err e) q a b = let is : x ≡ pos (code e) = a.is in absurd (omega (arith, ints))
