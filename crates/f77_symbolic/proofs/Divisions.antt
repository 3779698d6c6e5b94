-- Divisions that need no atom.
use Rattle.f77_symbolic.proofs.Common.{arith, ◌≡◌, ◌⊎◌, inl, inr, ◌<◌, sym, ◌∙◌, ℤ, pos, negsuc, ◌+ℤ◌, ◌*ℤ◌, int_div, int_rem, unsigned_abs, ints, Term}
use Rattle.f77_symbolic.proofs.Common.{quot-rem, rem_below, Valuation, sum_value, IsDivision}

nothing_left : (r : ℤ) → unsigned_abs r < 1 → r ≡ pos 0
nothing_left (pos n) h = omega (arith, ints, h)
nothing_left (negsuc n) h = absurd (omega (arith, h))

-- a division by 1 or -1
unit_is : (a d : ℤ) → (d ≡ pos 1) ⊎ (d ≡ negsuc 0) → (pos 0 +ℤ d *ℤ a ≡ int_div a d) × (pos 0 ≡ int_rem a d)
unit_is a d (inl one) =
    let none = nothing_left (int_rem a (pos 1)) (rem_below a (pos 1) (omega arith)) in
    let whole = quot-rem a (pos 1) in
    rw one (omega (arith, ints, whole, none), sym none)
unit_is a d (inr minus) =
    let none = nothing_left (int_rem a (negsuc 0)) (rem_below a (negsuc 0) (omega arith)) in
    let whole = quot-rem a (negsuc 0) in
    rw minus (omega (arith, ints, whole, none), sym none)

pub unit_division : (v : Valuation) (division : Term × Term) (a b d : ℤ) → b ≡ d → (d ≡ pos 1) ⊎ (d ≡ negsuc 0)
    → sum_value v division.0 ≡ pos 0 +ℤ d *ℤ a → sum_value v division.1 ≡ pos 0 → IsDivision v division a b
unit_division v division a b d is unit quotient remainder =
    let it = unit_is a d unit in rw is (record { quotient = quotient ∙ it.0; remainder = remainder ∙ it.1 })
