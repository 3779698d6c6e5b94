use Rattle.f77_run.proofs.Common.{◌≡◌, length, sym, ◌∙◌, ap, subst, arith, refl, ◌<◌, Some, ◌≤◌, ◌+◌, rules, get_or, FitsSigned, pos, w64, true≢false}
use Rattle.f77_run.proofs.Common.{to_z-of_z, slice_get_within, Decides, held_in, decoded, values_in, shown_cells, shown_as, Integer}
use Rattle.f77_run.proofs.Entered.{all_same, one_other, one_same, slot_shown}
use Rattle.f77_run.proofs.Held.{decided_not}
use Rattle.f77_run.proofs.entering.have_argument.Goals as goal

pub returns-then-not-is_value : goal.returns-then-not-is_value
returns-then-not-is_value c =
    let kinds = c.args.kinds.now in
    let registers = c.args.registers.now in
    let cells = shown_cells kinds registers in
    let values = values_in c.args.argument.now in
    let k = c.loop-place.place in
    let slot = c.args.first + k in
    let x = c.value.result in
    let within : k < length values = slice_get_within values k x c.value.ensures in
    let z = get_or registers slot (pos 0) in
    let wide : FitsSigned w64 z = search rules in
    let shown = slot_shown kinds registers slot Integer (pos 0) c.requires.room (omega (arith, within, c.requires.slots)) in
    let own = ap (λ z. shown_as (get_or kinds slot Integer) (decoded z)) (to_z-of_z w64 z wide) in
    let has : Decides c.is_value.result (Some x ≡ held_in cells slot) = subst (λ cell. Decides c.is_value.result (Some x ≡ cell)) (own ∙ sym shown) c.is_value.ensures in
    decided_not (one_other values cells c.args.first k x c.value.ensures (λ same. true≢false (sym (has.1 same) ∙ c.if-not-is_value.true)))

pub loop-place-preserved : goal.loop-place-preserved
loop-place-preserved c =
    let kinds = c.args.kinds.now in
    let registers = c.args.registers.now in
    let cells = shown_cells kinds registers in
    let values = values_in c.args.argument.now in
    let k = c.loop-place.place in
    let slot = c.args.first + k in
    let x = c.value.result in
    let within : k < length values = slice_get_within values k x c.value.ensures in
    let z = get_or registers slot (pos 0) in
    let wide : FitsSigned w64 z = search rules in
    let shown = slot_shown kinds registers slot Integer (pos 0) c.requires.room (omega (arith, within, c.requires.slots)) in
    let own = ap (λ z. shown_as (get_or kinds slot Integer) (decoded z)) (to_z-of_z w64 z wide) in
    let has : Decides c.is_value.result (Some x ≡ held_in cells slot) = subst (λ cell. Decides c.is_value.result (Some x ≡ cell)) (own ∙ sym shown) c.is_value.ensures in
    one_same values cells c.args.first k x c.value.ensures (has.0 c.if-not-is_value.false) c.loop-place.invariant

pub returns : goal.returns
returns c =
    let k = c.loop-place.place in
    let values = values_in c.args.argument.now in
    let same = all_same values (shown_cells c.args.kinds.now c.args.registers.now) c.args.first k
    (subst (λ n. n ≤ k) c.count-place-end.ensures c.loop-place-test.false)
    (subst (λ n. k ≤ n) c.count-place-end.ensures c.loop-place.auto.place-end) c.loop-place.invariant in
    (λ e. same, λ all. refl)
