use Rattle.f77_code.proofs.Common.{◌≡◌, ◌∙◌, sym, pos, FitsSigned, rules, w32, to_z-of_z, at_least, not_least, bits_zero, zero_bits, encodes_fault, ZeroStep}
use Rattle.f77_code.proofs.Common.{point, passed}
use Rattle.f77_code.proofs.Begun.{first_fails, last_fails, step_fails, all_go}
use Rattle.f77_code.proofs.Points.{begun_none, begun_some}
use Rattle.f77_code.proofs.Written.{put_held}
use Rattle.f77_code.proofs.looping.begun.Goals as goal

pub returns-then-first-ge-UNDEFINED-clause-runs : goal.returns-then-first-ge-UNDEFINED-clause-runs
returns-then-first-ge-UNDEFINED-clause-runs c = λ r q s encodes_r encodes_q encodes_s.
    let fx = c.ranges.first in
    let fy = c.ranges.last in
    let fz = c.ranges.step in
    first_fails c.args.variable c.args.counter c.args.body c.args.next c.args.registers.now c.args.turns.now r q s c.failed.result c.args.first
    (at_least c.args.first fx c.if-first-ge-UNDEFINED.true) (λ f t. c.failed.ensures f (simp to_z-of_z t)) encodes_r

pub returns-then-last-ge-UNDEFINED-clause-runs : goal.returns-then-last-ge-UNDEFINED-clause-runs
returns-then-last-ge-UNDEFINED-clause-runs c = λ r q s encodes_r encodes_q encodes_s.
    let fx = c.ranges.first in
    let fy = c.ranges.last in
    let fz = c.ranges.step in
    last_fails c.args.variable c.args.counter c.args.body c.args.next c.args.registers.now c.args.turns.now r q s c.args.first
    (not_least c.args.first fx c.if-first-ge-UNDEFINED.false) encodes_r c.failed-then-last-ge-UNDEFINED.result c.args.last
    (at_least c.args.last fy c.if-last-ge-UNDEFINED.true) (λ f t. c.failed-then-last-ge-UNDEFINED.ensures f (simp to_z-of_z t)) encodes_q

pub returns-then-step-ge-UNDEFINED-clause-runs : goal.returns-then-step-ge-UNDEFINED-clause-runs
returns-then-step-ge-UNDEFINED-clause-runs c = λ r q s encodes_r encodes_q encodes_s.
    let fx = c.ranges.first in
    let fy = c.ranges.last in
    let fz = c.ranges.step in
    step_fails c.args.variable c.args.counter c.args.body c.args.next c.args.registers.now c.args.turns.now r q s c.args.first
    (not_least c.args.first fx c.if-first-ge-UNDEFINED.false) encodes_r c.args.last
    (not_least c.args.last fy c.if-last-ge-UNDEFINED.false) encodes_q c.failed-then-step-ge-UNDEFINED.result c.args.step
    (at_least c.args.step fz c.if-step-ge-UNDEFINED.true) (λ f t. c.failed-then-step-ge-UNDEFINED.ensures f (simp to_z-of_z t)) encodes_s

pub returns-then-step-eq0-clause-runs : goal.returns-then-step-eq0-clause-runs
returns-then-step-eq0-clause-runs c = λ r q s encodes_r encodes_q encodes_s.
    let fx = c.ranges.first in
    let fy = c.ranges.last in
    let fz = c.ranges.step in
    let registers = c.args.registers.now in
    let turns = c.args.turns.now in
    let none = begun_none c.args.variable c.args.counter c.args.body c.args.next c.failed-then-step-eq0.result c.args.first c.args.last c.args.step
    registers turns (bits_zero c.args.step fz c.if-step-eq0.true) (c.failed-then-step-eq0.ensures ZeroStep (encodes_fault ZeroStep)) in
    all_go c.args.variable c.args.counter c.args.body c.args.next registers turns r q s c.args.first
    (not_least c.args.first fx c.if-first-ge-UNDEFINED.false) encodes_r c.args.last
    (not_least c.args.last fy c.if-last-ge-UNDEFINED.false) encodes_q
    (point c.failed-then-step-eq0.result registers turns) c.args.step (not_least c.args.step fz c.if-step-ge-UNDEFINED.false) encodes_s none

pub returns-clause-runs : goal.returns-clause-runs
returns-clause-runs c = λ r q s encodes_r encodes_q encodes_s.
    let fx = c.ranges.first in
    let fy = c.ranges.last in
    let fz = c.ranges.step in
    let registers = c.args.registers.now in
    let turns = c.args.turns.now in
    let narrow : FitsSigned w32 c.value-by.result = search rules in
    let some : c.args.step ≡ pos 0 → ⊥ = λ e. c.if-step-eq0.false (zero_bits c.args.step e) in
    let passes = simp to_z-of_z at c.passes_within-passes.ensures in
    let step = simp to_z-of_z at c.value-by.ensures in
    let set = simp to_z-of_z at c.write.ensures in
    let made = simp to_z-of_z at (c.pass.ensures c.write.new.registers) in
    let begins = made
    ∙ (λ i. passed c.args.counter c.args.body c.args.next (passes i) (step i) (set i) turns)
    ∙ sym (begun_some c.args.variable c.args.counter c.args.body c.args.next c.args.first c.args.last c.args.step registers turns some) in
    all_go c.args.variable c.args.counter c.args.body c.args.next registers turns r q s c.args.first
    (not_least c.args.first fx c.if-first-ge-UNDEFINED.false) encodes_r c.args.last
    (not_least c.args.last fy c.if-last-ge-UNDEFINED.false) encodes_q
    (point c.pass.result c.write.new.registers c.pass.new.turns) c.args.step (not_least c.args.step fz c.if-step-ge-UNDEFINED.false)
    encodes_s begins

pub returns-clause-held : goal.returns-clause-held
returns-clause-held c =
    let fx = c.ranges.first in
    let set = simp to_z-of_z at c.write.ensures in
    rw set
    (put_held c.args.registers.now c.args.variable c.args.first c.requires.first
    (not_least c.args.first fx c.if-first-ge-UNDEFINED.false) c.requires.held)
