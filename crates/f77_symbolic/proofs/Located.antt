-- The slots that locations are.
use Rattle.f77_symbolic.proofs.Common.{arith, ◌≡◌, ◌<◌, ◌+◌, ℕ, Bool, true, false, refl, ℤ, pos, negsuc, ◌≤ℤ◌, ◌<ℤ◌, ◌+ℤ◌, ◌-ℤ◌, ◌*ℤ◌, ◌↔◌}
use Rattle.f77_symbolic.proofs.Common.{IsTrue, ints, is_same, slot_behind}
use Rattle.std.proofs.lemmas.Bool.Decides.{not_from_Decides}
use Rattle.f77_symbolic.proofs.Numbers.{same_decides}

-- it is one of so many
pub slot_within : (first count : ℕ) (z : ℤ) → pos 0 ≤ℤ z → z <ℤ pos count → slot_behind first z < first + count
slot_within first count (pos k) above below = omega (arith, ints, above, below)
slot_within first count (negsuc k) above below = absurd (omega (arith, ints, above))

-- of one slot alone it is the first one
pub only_slot : (first count : ℕ) (z : ℤ) → pos 0 ≤ℤ z → z <ℤ pos count → count ≡ 1 → slot_behind first z ≡ first
only_slot first count (pos n) above below one = omega (arith, ints, above, below, one)
only_slot first count (negsuc n) above below one = absurd (omega (arith, ints, above))

-- two are one where nothing lies between them
pub one_found : (first other : ℕ) (z w between offset sum : ℤ) (b : Bool) → pos 0 ≤ℤ z → pos 0 ≤ℤ w
    → between ≡ pos 1 *ℤ z +ℤ negsuc 0 *ℤ w → sum ≡ offset +ℤ pos 1 *ℤ between → offset ≡ pos first -ℤ pos other → is_same sum (pos 0) ≡ b
    → IsTrue b ↔ (slot_behind first z ≡ slot_behind other w)
one_found first other (negsuc n) w between offset sum b above there e f g is = absurd (omega (arith, ints, above))
one_found first other (pos n) (negsuc m) between offset sum b above there e f g is = absurd (omega (arith, ints, there))
one_found first other (pos n) (pos m) between offset sum true above there e f g is =
    let none = (same_decides sum (pos 0)).0 is in
    ((λ _. omega (arith, ints, e, f, g, none)), (λ _. refl))
one_found first other (pos n) (pos m) between offset sum false above there e f g is =
    ((λ yes. absurd (cc (yes))), (λ same. absurd (not_from_Decides _ (same_decides sum (pos 0)) is (omega (arith, ints, e, f, g, same)))))
