use Rattle.f77_run.proofs.Common.{◌≡◌, length, sym, ◌∙◌, ap, arith, refl, ◌<◌, ℕ, Some, [], ◌∷◌, rules, slice_get, suc, get_or, zero, false, FitsSigned}
use Rattle.f77_run.proofs.Common.{option_map, pos, w32, to_z-of_z, length-map, slice_get-get_or, slice_get-map, Value}
use Rattle.f77_actions.specs.declared.value.Value.TheVariants as held
use Rattle.f77_run.proofs.entering.value.Goals as goal

-- a variable has one value
only_value : (v : Value) (k : ℕ) → k < 1 → slice_get (v ∷ []) k ≡ Some v
only_value v zero below = refl
only_value v (suc k) below = absurd (omega (arith, below))

pub returns-in-Int : goal.returns-in-Int
returns-in-Int c =
    let fits : FitsSigned w32 c.in-Int.number = search rules in
    rw (to_z-of_z w32 c.in-Int.number fits, c.in-Int.is) (only_value (held.Number c.in-Int.number) c.args.place (rw c.in-Int.is at c.requires))

pub returns-in-Truth : goal.returns-in-Truth
returns-in-Truth c = rw c.in-Truth.is (only_value (held.Truth c.in-Truth.truth) c.args.place (rw c.in-Truth.is at c.requires))

pub returns-in-Ints : goal.returns-in-Ints
returns-in-Ints c =
    let k = c.args.place in
    let numbers = c.in-Ints.numbers in
    let asked = rw c.in-Ints.is at c.requires in
    let below : k < length numbers = omega (arith, asked, length-map numbers (λ z. held.Number z)) in
    let read = get_or c.as_slice.result.now k (pos 0) in
    let narrow : FitsSigned w32 read = search rules in
    rw c.in-Ints.is
    (slice_get-map (λ z. held.Number z) numbers k
    ∙ ap (option_map (λ z. held.Number z)) (slice_get-get_or numbers k (pos 0) below)
    ∙ ap (λ z. Some (held.Number z)) (ap (λ list. get_or list k (pos 0)) (sym c.as_slice.ensures) ∙ sym (to_z-of_z w32 read narrow)))

pub returns-in-Truths : goal.returns-in-Truths
returns-in-Truths c =
    let k = c.args.place in
    let truths = c.in-Truths.truths in
    let asked = rw c.in-Truths.is at c.requires in
    let below : k < length truths = omega (arith, asked, length-map truths (λ b. held.Truth b)) in
    rw c.in-Truths.is
    (slice_get-map (λ b. held.Truth b) truths k
    ∙ ap (option_map (λ b. held.Truth b)) (slice_get-get_or truths k false below)
    ∙ ap (λ list. Some (held.Truth (get_or list k false))) (sym c.as_slice-in-Truths.ensures))
