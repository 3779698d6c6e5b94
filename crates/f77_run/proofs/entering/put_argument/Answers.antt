use Rattle.f77_run.proofs.Common.{◌≡◌, length, sym, ◌∙◌, subst, arith, ◌<◌, Some, ◌≤◌, ◌+◌, rules, get_or, FitsSigned, slice_set, w64, length-set, of_z, to_z}
use Rattle.f77_run.proofs.Common.{to_z-of_z, slice_get_within, slice_get-get_or, values_in, Integer}
use Rattle.f77_run.proofs.Entered.{AreBegun, IsChanged, slot_put, value_put, values_put}
use Rattle.f77_run.proofs.entering.put_argument.Goals as goal

pub loop-place-preserved : goal.loop-place-preserved
loop-place-preserved c =
    let kinds = c.args.kinds.now in
    let first = c.args.first in
    let now = c.loop-place.registers in
    let k = c.loop-place.place in
    let x = c.value.result in
    let values = values_in c.args.argument.now in
    let within : k < length values = slice_get_within values k x c.value.ensures in
    let below : first + k < length kinds = omega (arith, within, c.requires.slots) in
    let z = c.number.result in
    let wide : FitsSigned w64 z = search rules in
    let same : to_z w64 (of_z w64 z) ≡ z = to_z-of_z w64 z wide in
    let put : IsChanged kinds (λ cells. slice_set cells (first + k) (Some x)) now (slice_set now (first + k) z) = λ cells constants was.
    slot_put (get_or kinds (first + k) Integer) (Some x) kinds cells constants now (first + k) z below (slice_get-get_or kinds (first + k) Integer below)
    c.number.ensures.number c.number.ensures.held c.number.ensures.fitting was in
    record {
      long = length-set now (first + k) _ ∙ c.loop-place.invariant.long;
      begun = subst (λ z. AreBegun values kinds first c.args.registers.now (k + 1) (slice_set now (first + k) z)) (sym same)
          (value_put values kinds first c.args.registers.now k x now (slice_set now (first + k) z) c.value.ensures put c.loop-place.invariant.begun);
    }

pub returns-clause-put : goal.returns-clause-put
returns-clause-put c =
    values_put (values_in c.args.argument.now) c.args.kinds.now c.args.first c.args.registers.now c.loop-place.place c.loop-place.registers
    (subst (λ n. n ≤ c.loop-place.place) c.count-place-end.ensures c.loop-place-test.false) c.loop-place.invariant.begun
