-- A value put in a slot and in its register.
use Rattle.f77_code.proofs.Common.{◌≡◌, ◌∙◌, ap, sym, arith, ℕ, refl, subst, length, true, ◌+◌, List, Some, ◌<◌, slice_get, false, [], suc, ◌∷◌, zero, Bool, ℤ}
use Rattle.f77_code.proofs.Common.{pos, Ok, Option, inl, inr, slice_set, negsuc, ◌⊎◌, ltb-true, ◌≢◌, length-set, ◌<ℤ◌, ◌==◌, eqb-true, ◌||◌, and_parts}
use Rattle.f77_code.proofs.Common.{cases_eq, option_and_then, fits_truth, truth_number, IsValueOrFault, fits, Plan, register, Cells, HoldsRegisters, IsSlot}
use Rattle.f77_code.proofs.Common.{are_held, is_held, held_in, read_as, decoded, Integer, Logical}
use Rattle.f77_actions.specs.declared.value.Value.{Value}
use Rattle.f77_actions.proofs.Operations.{value_fits}
use Rattle.f77_actions.specs.declared.value.Value.TheVariants as held

register_same : (registers : List ℤ) (k : ℕ) (z : ℤ) → k < length registers → register (slice_set registers k z) k ≡ decoded z
register_same [] k z below = absurd (omega arith)
register_same (x ∷ xs) zero z below = refl
register_same (x ∷ xs) (suc k) z below = register_same xs k z (omega arith)

register_other : (registers : List ℤ) (k j : ℕ) (z : ℤ) → j ≢ k → register (slice_set registers k z) j ≡ register registers j
register_other [] k j z apart = refl
register_other (x ∷ xs) zero zero z apart = absurd (apart refl)
register_other (x ∷ xs) zero (suc j) z apart = refl
register_other (x ∷ xs) (suc k) zero z apart = refl
register_other (x ∷ xs) (suc k) (suc j) z apart = register_other xs k j z (λ e. apart (omega arith))

-- what may be in a place of a list
abbrev pub at : {X : Type 0} → List (Option X) → ℕ → Option X
at xs k = option_and_then (λ x. x) (slice_get xs k)

pub at_same : {X : Type 0} (xs : List (Option X)) (k : ℕ) (v : Option X) → k < length xs → at (slice_set xs k v) k ≡ v
at_same [] k v below = absurd (omega arith)
at_same (x ∷ xs) zero v below = refl
at_same (x ∷ xs) (suc k) v below = at_same xs k v (omega arith)

pub at_other : {X : Type 0} (xs : List (Option X)) (k j : ℕ) (v : Option X) → j ≢ k → at (slice_set xs k v) j ≡ at xs j
at_other [] k j v apart = refl
at_other (x ∷ xs) zero zero v apart = absurd (apart refl)
at_other (x ∷ xs) zero (suc j) v apart = refl
at_other (x ∷ xs) (suc k) zero v apart = refl
at_other (x ∷ xs) (suc k) (suc j) v apart = at_other xs k j v (λ e. apart (omega arith))

pub decoded_fits : (z : ℤ) → fits z ≡ true → decoded z ≡ Ok z
decoded_fits (negsuc n) e = refl
decoded_fits (pos n) e = by (n == 1099511627776) refl
  where
    by : (b : Bool) → (n == 1099511627776) ≡ b → decoded (pos n) ≡ Ok (pos n)
    by true t = let same = eqb-true n 1099511627776 t in let below = ltb-true n 2147483648 e in absurd (omega arith)
    by false t = rw t refl

held_fits : (z : ℤ) → fits z ≡ true → is_held z ≡ true
held_fits (pos n) e = ap (λ b. b || (n == 1099511627776)) e
held_fits (negsuc n) e = e

set_held : (registers : List ℤ) (k : ℕ) (z : ℤ) → is_held z ≡ true → are_held registers ≡ true → are_held (slice_set registers k z) ≡ true
set_held [] k z is all = refl
set_held (x ∷ xs) zero z is all = rw is (and_parts (is_held x) (are_held xs) all).1
set_held (x ∷ xs) (suc k) z is all = let parts = and_parts (is_held x) (are_held xs) all in rw parts.0 (set_held xs k z is parts.1)

-- a value that is put keeps registers held
pub fitting_held : (registers : List ℤ) (k : ℕ) (x : ℤ) → fits x ≡ true → are_held registers ≡ true → are_held (slice_set registers k x) ≡ true
fitting_held registers k x e all = set_held registers k x (held_fits x e) all

pub put_held : (registers : List ℤ) (k : ℕ) (x : ℤ) → IsValueOrFault x → x <ℤ pos 1099511627776 → are_held registers ≡ true → are_held (slice_set registers k x) ≡ true
put_held registers k x t below all = fitting_held registers k x (value_fits x t below) all

value_written : (plan : Plan) (registers : List ℤ) (cells : Cells) → HoldsRegisters plan registers cells → (k : ℕ) (z : ℤ) (v : Value) → k < plan.slots → fits z ≡ true
    → read_as (plan.kind k) (Some v) ≡ Ok z → HoldsRegisters plan (slice_set registers k z) (slice_set cells k (Some v))
value_written plan registers cells holds k z v is e read = record {
  slots = λ j below. slots j below (cases_eq j k);
  constants = λ j w c.
      let apart : plan.slots + j ≢ k = omega arith in register_other registers k (plan.slots + j) z apart ∙ holds.constants j w c;
  held = fitting_held registers k z e holds.held;
  count = length-set cells k (Some v) ∙ holds.count;
  room = let same = length-set registers k z in let room = holds.room in omega (arith, same);
}
  where
    within : k < length registers
    within = let room = holds.room in omega arith

    among : k < length cells
    among = let count = holds.count in omega arith

    here : register (slice_set registers k z) k ≡ read_as (plan.kind k) (held_in (slice_set cells k (Some v)) k)
    here = register_same registers k z within ∙ decoded_fits z e ∙ sym (ap (read_as (plan.kind k)) (at_same cells k (Some v) among) ∙ read)

    slots : (j : ℕ) → j < plan.slots → (j ≡ k) ⊎ (j ≢ k) → register (slice_set registers k z) j ≡ read_as (plan.kind j) (held_in (slice_set cells k (Some v)) j)
    slots j below (inl same) =
        subst (λ j. register (slice_set registers k z) j ≡ read_as (plan.kind j) (held_in (slice_set cells k (Some v)) j)) (sym same) here
    slots j below (inr apart) =
        register_other registers k j z apart ∙ holds.slots j below ∙ sym (ap (read_as (plan.kind j)) (at_other cells k j (Some v) apart))

pub number_written : (plan : Plan) (registers : List ℤ) (cells : Cells) → HoldsRegisters plan registers cells → (k : ℕ) (z : ℤ) → IsSlot plan Integer k → fits z ≡ true
    → HoldsRegisters plan (slice_set registers k z) (slice_set cells k (Some (held.Number z)))
number_written plan registers cells holds k z is e =
    value_written plan registers cells holds k z (held.Number z) is.0 e (ap (λ kind. read_as kind (Some (held.Number z))) is.1)

pub truth_written : (plan : Plan) (registers : List ℤ) (cells : Cells) → HoldsRegisters plan registers cells → (k : ℕ) (b : Bool) → IsSlot plan Logical k
    → HoldsRegisters plan (slice_set registers k (truth_number b)) (slice_set cells k (Some (held.Truth b)))
truth_written plan registers cells holds k b is =
    value_written plan registers cells holds k (truth_number b) (held.Truth b) is.0 (fits_truth b) (ap (λ kind. read_as kind (Some (held.Truth b))) is.1)
