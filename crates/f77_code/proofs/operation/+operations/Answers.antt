use Rattle.f77_code.proofs.Common.{◌∙◌, ap, arith, length, pos, FitsSigned, w64, rules, if◌then◌else◌, and_parts, to_z-of_z, at_least, not_least, bits_zero}
use Rattle.f77_code.proofs.Common.{zero_bits, is_same, point, ran, term_value, operation_within, term_within}
use Rattle.f77_code.proofs.Depth.{depth}
use Rattle.f77_code.proofs.Points.{fails, goes, zero_next, some_inner}
use Rattle.f77_code.proofs.operation.+operations.Goals as goal

pub perform-when-requires : goal.perform-when-requires
perform-when-requires t c =
    let deep = ap depth c.in-When.is in
    let same = ap depth c.deref-in-When-2.ensures in
    let within = rw c.in-When.is at c.requires.within in
    let room = length c.args.registers.now in
    let first = term_within room c.in-When.term.value in
    let second = operation_within room (length c.args.turns.now) c.in-When.inner.value in
    let parts = and_parts first second within in
    (omega (arith, c.decreases, deep, same), (c.requires.held, (rw c.deref-in-When.ensures parts.0, rw c.deref-in-When-2.ensures parts.1)))

pub perform-branch-compared-requires : goal.perform-branch-compared-requires
perform-branch-compared-requires t c =
    let fx : FitsSigned w64 c.operand-x.result = search rules in
    let fy : FitsSigned w64 c.operand-y.result = search rules in
    let fz : FitsSigned w64 c.compared.result = search rules in
    let encodes = c.compared.ensures (term_value c.args.registers.now c.deref-in-IfRelated.result.now.left)
    (term_value c.args.registers.now c.deref-in-IfRelated-2.result.now.right) (simp to_z-of_z c.operand-x.ensures) (simp to_z-of_z c.operand-y.ensures) in
    simp to_z-of_z encodes.valid

pub perform-returns-in-Sign-clause-runs : goal.perform-returns-in-Sign-clause-runs
perform-returns-in-Sign-clause-runs t c = rw c.in-Sign.is (rw c.deref-in-Sign.ensures at (c.sign.ensures c.args.turns.now))

pub perform-returns-in-Select-clause-runs : goal.perform-returns-in-Select-clause-runs
perform-returns-in-Select-clause-runs t c =
    rw c.in-Select.is (rw (c.deref-in-Select.ensures, c.deref-in-Select-2.ensures.value) at (c.select.ensures c.args.turns.now))

pub when-perform_inner-requires : goal.when-perform_inner-requires
when-perform_inner-requires t c = (omega (arith, c.decreases), (c.requires.held, c.requires.inner))

pub when-returns-then-x-ge-UNDEFINED-clause-runs : goal.when-returns-then-x-ge-UNDEFINED-clause-runs
when-returns-then-x-ge-UNDEFINED-clause-runs t c =
    let fx : FitsSigned w64 c.condition-x.result = search rules in
    fails c.failed.result c.args.registers.now c.args.turns.now c.condition-x.result (at_least c.condition-x.result fx c.if-x-ge-UNDEFINED.true) (λ f t. c.failed.ensures f (simp to_z-of_z t))
    (λ z. if is_same z (pos 0) then point c.args.next c.args.registers.now c.args.turns.now
    else ran c.args.inner.now c.args.next c.args.registers.now c.args.turns.now) (term_value c.args.registers.now c.args.term.now)
    c.condition-x.ensures

pub when-returns-then-x-eq0-clause-runs : goal.when-returns-then-x-eq0-clause-runs
when-returns-then-x-eq0-clause-runs t c =
    let fx : FitsSigned w64 c.condition-x.result = search rules in
    zero_next (point c.args.next c.args.registers.now c.args.turns.now) (ran c.args.inner.now c.args.next c.args.registers.now c.args.turns.now)
    c.condition-x.result (bits_zero c.condition-x.result fx c.if-x-eq0.true)
    ∙ goes c.args.registers.now c.args.turns.now c.condition-x.result (not_least c.condition-x.result fx c.if-x-ge-UNDEFINED.false)
    (λ z. if is_same z (pos 0) then point c.args.next c.args.registers.now c.args.turns.now
    else ran c.args.inner.now c.args.next c.args.registers.now c.args.turns.now) (term_value c.args.registers.now c.args.term.now)
    c.condition-x.ensures

pub when-returns-clause-runs : goal.when-returns-clause-runs
when-returns-clause-runs t c =
    let fx : FitsSigned w64 c.condition-x.result = search rules in
    c.perform_inner.ensures.runs
    ∙ some_inner (point c.args.next c.args.registers.now c.args.turns.now) (ran c.args.inner.now c.args.next c.args.registers.now c.args.turns.now)
    c.condition-x.result (λ e. c.if-x-eq0.false (zero_bits c.condition-x.result e))
    ∙ goes c.args.registers.now c.args.turns.now c.condition-x.result (not_least c.condition-x.result fx c.if-x-ge-UNDEFINED.false)
    (λ z. if is_same z (pos 0) then point c.args.next c.args.registers.now c.args.turns.now
    else ran c.args.inner.now c.args.next c.args.registers.now c.args.turns.now) (term_value c.args.registers.now c.args.term.now)
    c.condition-x.ensures
