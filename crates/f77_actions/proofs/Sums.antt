-- Sums, differences and products of numbers that stand for values or faults.
use Rattle.f77_actions.proofs.Common.{FitsSigned, w64, Ok, arith, ◌≡◌, pos, sym, ℤ, false, negsuc, true, Err, refl, ◌<ℤ◌, ◌≤ℤ◌, Result, subst, ◌*ℤ◌, ◌≤◌}
use Rattle.f77_actions.proofs.Common.{unsigned_abs, ◌+ℤ◌, ◌-ℤ◌, ints, fits_signed_mul, fits, Encodes, IsValueOrFault, code, in_range, both, operation_fault}
use Rattle.f77_actions.proofs.Common.{Fault, Overflow}
use Rattle.f77_actions.proofs.Bounds.{Within, within, encodes_value}

valued : (z : ℤ) → fits z ≡ true → Encodes z (in_range z)
valued z e = let range : in_range z ≡ Ok z = rw e refl in subst (λ r. Encodes z r) (sym range) (encodes_value z e)

overflowed : (u z : ℤ) → fits z ≡ false → Encodes u (Err Overflow) → Encodes u (in_range z)
overflowed u z e t = let range : in_range z ≡ Err Overflow = rw e refl in subst (λ r. Encodes u r) (sym range) t

-- no sum with a fault is in the range
pub sum_fits : (x y : ℤ) → fits (x +ℤ y) ≡ true → (r q : Result ℤ Fault) → Encodes x r → Encodes y q → Encodes (x +ℤ y) (both (λ a b. in_range (a +ℤ b)) r q)
sum_fits x y e (Ok z) (Ok v) a b = subst (λ w. Encodes w (in_range (z +ℤ v))) (λ i. sym a.is i +ℤ sym b.is i) (valued (z +ℤ v) (subst (λ w. fits w ≡ true) (λ i. a.is i +ℤ b.is i) e))
sum_fits x y e (Ok z) (Err f) a b =
    let w : Within z = within z a.fitting in let s = within (x +ℤ y) e in let is : y ≡ pos (code f) = b.is in absurd (omega (arith, ints))
sum_fits x y e (Err f) (Ok v) a b =
    let w : Within v = within v b.fitting in let s = within (x +ℤ y) e in let is : x ≡ pos (code f) = a.is in absurd (omega (arith, ints))
sum_fits x y e (Err f) (Err g) a b =
    let s = within (x +ℤ y) e in let is : x ≡ pos (code f) = a.is in let other : y ≡ pos (code g) = b.is in absurd (omega (arith, ints))

pub sum_unfit : (u x y : ℤ) → fits (x +ℤ y) ≡ false → (r q : Result ℤ Fault)
    → Encodes x r → Encodes y q → Encodes u (operation_fault r q) → Encodes u (both (λ a b. in_range (a +ℤ b)) r q)
sum_unfit u x y e (Ok z) (Ok v) a b t = overflowed u (z +ℤ v) (subst (λ w. fits w ≡ false) (λ i. a.is i +ℤ b.is i) e) t
sum_unfit u x y e (Ok z) (Err f) a b t = t
sum_unfit u x y e (Err f) q a b t = t

pub difference_fits : (x y : ℤ) → y <ℤ pos 1099511627776
    → fits (x -ℤ y) ≡ true → (r q : Result ℤ Fault) → Encodes x r → Encodes y q → Encodes (x -ℤ y) (both (λ a b. in_range (a -ℤ b)) r q)
difference_fits x y h e (Ok z) (Ok v) a b = subst (λ w. Encodes w (in_range (z -ℤ v))) (λ i. sym a.is i -ℤ sym b.is i) (valued (z -ℤ v) (subst (λ w. fits w ≡ true) (λ i. a.is i -ℤ b.is i) e))
difference_fits x y h e (Ok z) (Err f) a b = let is : y ≡ pos (code f) = b.is in absurd (omega (arith, ints))
difference_fits x y h e (Err f) (Ok v) a b =
    let w : Within v = within v b.fitting in let s = within (x -ℤ y) e in let is : x ≡ pos (code f) = a.is in absurd (omega (arith, ints))
difference_fits x y h e (Err f) (Err g) a b = let is : y ≡ pos (code g) = b.is in absurd (omega (arith, ints))

pub difference_unfit : (u x y : ℤ) → fits (x -ℤ y) ≡ false → (r q : Result ℤ Fault)
    → Encodes x r → Encodes y q → Encodes u (operation_fault r q) → Encodes u (both (λ a b. in_range (a -ℤ b)) r q)
difference_unfit u x y e (Ok z) (Ok v) a b t = overflowed u (z -ℤ v) (subst (λ w. fits w ≡ false) (λ i. a.is i -ℤ b.is i) e) t
difference_unfit u x y e (Ok z) (Err f) a b t = t
difference_unfit u x y e (Err f) q a b t = t

size_below : (z : ℤ) → negsuc 2147483647 ≤ℤ z → z ≤ℤ pos 2147483647 → unsigned_abs z ≤ 2147483648
size_below (pos n) l h = omega (arith, ints)
size_below (negsuc n) l h = omega (arith, ints)

pub product_small : (x y : ℤ) → IsValueOrFault x → IsValueOrFault y → x <ℤ pos 1099511627776 → y <ℤ pos 1099511627776 → FitsSigned w64 (x *ℤ y)
product_small x y a b l m = fits_signed_mul w64 x y 2147483648 2147483648 (size_below x a.low (a.gap l)) (size_below y b.low (b.gap m)) (omega arith)

pub product_fits : (x y : ℤ) → x <ℤ pos 1099511627776 → y <ℤ pos 1099511627776
    → fits (x *ℤ y) ≡ true → (r q : Result ℤ Fault) → Encodes x r → Encodes y q → Encodes (x *ℤ y) (both (λ a b. in_range (a *ℤ b)) r q)
product_fits x y g h e (Ok z) (Ok v) a b = subst (λ w. Encodes w (in_range (z *ℤ v))) (λ i. sym a.is i *ℤ sym b.is i) (valued (z *ℤ v) (subst (λ w. fits w ≡ true) (λ i. a.is i *ℤ b.is i) e))
product_fits x y g h e (Ok z) (Err f) a b = let is : y ≡ pos (code f) = b.is in absurd (omega (arith, ints))
product_fits x y g h e (Err f) q a b = let is : x ≡ pos (code f) = a.is in absurd (omega (arith, ints))

pub product_unfit : (u x y : ℤ) → fits (x *ℤ y) ≡ false → (r q : Result ℤ Fault)
    → Encodes x r → Encodes y q → Encodes u (operation_fault r q) → Encodes u (both (λ a b. in_range (a *ℤ b)) r q)
product_unfit u x y e (Ok z) (Ok v) a b t = overflowed u (z *ℤ v) (subst (λ w. fits w ≡ false) (λ i. a.is i *ℤ b.is i) e) t
product_unfit u x y e (Ok z) (Err f) a b t = t
product_unfit u x y e (Err f) q a b t = t

near : (z : ℤ) → negsuc 9000000000000 ≤ℤ z → z ≤ℤ pos 9000000000000 → FitsSigned w64 z
near (pos n) l h = record { sfits = omega (arith, ints) }
near (negsuc n) l h = record { sfits = omega (arith, ints) }

pub sum_small : (x y : ℤ) → IsValueOrFault x → IsValueOrFault y → FitsSigned w64 (x +ℤ y)
sum_small x y a b = near (x +ℤ y) (omega (arith, ints)) (omega (arith, ints))

pub difference_small : (x y : ℤ) → IsValueOrFault x → IsValueOrFault y → FitsSigned w64 (x -ℤ y)
difference_small x y a b = near (x -ℤ y) (omega (arith, ints)) (omega (arith, ints))
