use Rattle.f77_code.proofs.Common.{arith, ◌<◌, ◌≤◌, FitsSigned, w64, rules, to_z-of_z, term_value}
use Rattle.f77_code.proofs.Points.{element_fails, element_put, vector_misplaced}
use Rattle.f77_code.proofs.assignment.set_element.Goals as goal

pub returns-then-from-offset-clause-runs : goal.returns-then-from-offset-clause-runs
returns-then-from-offset-clause-runs c = λ turns.
    let u : FitsSigned w64 c.operand-subscript.result = search rules in
    let o = simp to_z-of_z at c.offset-offset.ensures in
    let above : c.args.bound ≤ c.offset-offset.result = omega arith in
    let v : FitsSigned w64 c.misplaced.result = search rules in
    element_fails c.args.first c.args.bound c.offset-offset.result c.args.next c.failed.result c.args.registers.now turns c.operand-subscript.result
    (term_value c.args.registers.now c.args.pair.now.right) o above
    (λ b r f a e. c.failed.ensures f (simp to_z-of_z (vector_misplaced _ b r f (c.misplaced.ensures.is r r (simp to_z-of_z a) (simp to_z-of_z a)) e)))
    (term_value c.args.registers.now c.args.pair.now.left) c.operand-subscript.ensures

pub returns-clause-runs : goal.returns-clause-runs
returns-clause-runs c = λ turns.
    let u : FitsSigned w64 c.operand-subscript.result = search rules in
    let v : FitsSigned w64 c.operand-x.result = search rules in
    let o = simp to_z-of_z at c.offset-offset.ensures in
    let below : c.offset-offset.result < c.args.bound = omega arith in
    let small : c.args.bound < 4294967296 = omega arith in
    element_put c.args.first c.args.bound c.offset-offset.result c.args.next c.put.result c.args.registers.now c.put.new.registers turns c.operand-subscript.result
    (term_value c.args.registers.now c.args.pair.now.right) o below small (term_value c.args.registers.now c.args.pair.now.left) c.operand-subscript.ensures
    (c.put.ensures.runs (term_value c.args.registers.now c.args.pair.now.right) turns (simp to_z-of_z c.operand-x.ensures))
