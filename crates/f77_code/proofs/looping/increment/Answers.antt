use Rattle.f77_code.proofs.Common.{◌∙◌, pos, FitsSigned, w64, rules, get_or, w32, to_z-of_z, at_least, not_least, register, passed, Turn}
use Rattle.f77_code.proofs.Incremented.{is_there, next_fails, next_goes}
use Rattle.f77_code.proofs.Written.{put_held}
use Rattle.f77_code.proofs.looping.increment.Goals as goal

pub failed-requires-clause-valid : goal.failed-requires-clause-valid
failed-requires-clause-valid c =
    let fv : FitsSigned w64 c.read-value.result = search rules in
    let fx : FitsSigned w64 c.advanced-x.result = search rules in
    let encodes = c.advanced-x.ensures (register c.args.registers.now c.args.variable) (simp to_z-of_z c.read-value.ensures) in
    simp to_z-of_z encodes.valid

pub returns-then-x-ge-UNDEFINED-clause-runs : goal.returns-then-x-ge-UNDEFINED-clause-runs
returns-then-x-ge-UNDEFINED-clause-runs c =
    let turn : Turn = get_or c.args.turns.now c.args.counter (record { passes = 0; step = pos 0 }) in
    let narrow : FitsSigned w32 turn.step = search rules in
    let fv : FitsSigned w64 c.read-value.result = search rules in
    let fx : FitsSigned w64 c.advanced-x.result = search rules in
    let encodes = simp to_z-of_z at (c.advanced-x.ensures (register c.args.registers.now c.args.variable) (simp to_z-of_z c.read-value.ensures)) in
    next_fails c.args.variable c.args.counter c.args.body c.args.next turn c.args.registers.now c.args.turns.now
    (is_there c.args.turns.now c.args.counter _ c.requires.counter) c.failed.result c.advanced-x.result
    (at_least c.advanced-x.result fx c.if-x-ge-UNDEFINED.true) (λ f t. c.failed.ensures f (simp to_z-of_z t)) encodes

pub returns-clause-runs : goal.returns-clause-runs
returns-clause-runs c =
    let turn : Turn = get_or c.args.turns.now c.args.counter (record { passes = 0; step = pos 0 }) in
    let narrow : FitsSigned w32 turn.step = search rules in
    let fv : FitsSigned w64 c.read-value.result = search rules in
    let fx : FitsSigned w64 c.advanced-x.result = search rules in
    let encodes = simp to_z-of_z at (c.advanced-x.ensures (register c.args.registers.now c.args.variable) (simp to_z-of_z c.read-value.ensures)) in
    let set = simp to_z-of_z at c.write.ensures in
    let made = simp to_z-of_z at (c.pass.ensures c.write.new.registers) in
    made
    ∙ (λ i. passed c.args.counter c.args.body c.args.next (c.one_less-passes.ensures i) turn.step (set i) c.args.turns.now)
    ∙ next_goes c.args.variable c.args.counter c.args.body c.args.next turn c.args.registers.now c.args.turns.now
    (is_there c.args.turns.now c.args.counter _ c.requires.counter) c.advanced-x.result
    (not_least c.advanced-x.result fx c.if-x-ge-UNDEFINED.false) encodes

pub returns-clause-held : goal.returns-clause-held
returns-clause-held c =
    let fv : FitsSigned w64 c.read-value.result = search rules in
    let fx : FitsSigned w64 c.advanced-x.result = search rules in
    let encodes = c.advanced-x.ensures (register c.args.registers.now c.args.variable) (simp to_z-of_z c.read-value.ensures) in
    let set = simp to_z-of_z at c.write.ensures in
    rw set
    (put_held c.args.registers.now c.args.variable c.advanced-x.result encodes.valid
    (not_least c.advanced-x.result fx c.if-x-ge-UNDEFINED.false) c.requires.held)
