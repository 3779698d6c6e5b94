use Rattle.f77_code.proofs.Common.{arith, ◌<◌, ◌≤◌, FitsSigned, w64, rules, to_z-of_z, term_value}
use Rattle.f77_code.proofs.Points.{row_fails, column_fails, matrix_misplaced, matrix_put}
use Rattle.f77_code.proofs.assignment.set_matrix.Goals as goal

pub returns-then-from-down-clause-runs : goal.returns-then-from-down-clause-runs
returns-then-from-down-clause-runs c = λ turns.
    let fx : FitsSigned w64 c.operand-row.result = search rules in
    let fy : FitsSigned w64 c.operand-column.result = search rules in
    let o = simp to_z-of_z at c.offset-down.ensures in
    let above : c.args.rows ≤ c.offset-down.result = omega arith in
    let fz : FitsSigned w64 c.misplaced.result = search rules in
    row_fails c.args.first c.args.rows c.args.columns c.offset-down.result c.args.next c.failed.result c.args.registers.now turns c.operand-row.result
    c.operand-column.result (term_value c.args.registers.now c.args.term.now) o above
    (λ m n r q f a b e. c.failed.ensures f
    (simp to_z-of_z (matrix_misplaced _ m n r q f (c.misplaced.ensures.is r q (simp to_z-of_z a) (simp to_z-of_z b)) e)))
    (term_value c.args.registers.now c.args.pair.now.left) (term_value c.args.registers.now c.args.pair.now.right) c.operand-row.ensures c.operand-column.ensures

pub returns-then-from-across-clause-runs : goal.returns-then-from-across-clause-runs
returns-then-from-across-clause-runs c = λ turns.
    let fx : FitsSigned w64 c.operand-row.result = search rules in
    let fy : FitsSigned w64 c.operand-column.result = search rules in
    let o = simp to_z-of_z at c.offset-down.ensures in
    let p = simp to_z-of_z at c.offset-across.ensures in
    let inside : c.offset-down.result < c.args.rows = omega arith in
    let small : c.args.rows < 4294967296 = omega arith in
    let above : c.args.columns ≤ c.offset-across.result = omega arith in
    let fz : FitsSigned w64 c.misplaced-then-from-across.result = search rules in
    column_fails c.args.first c.args.rows c.args.columns c.offset-down.result c.offset-across.result c.args.next c.failed-then-from-across.result
    c.args.registers.now turns c.operand-row.result c.operand-column.result (term_value c.args.registers.now c.args.term.now) o inside small p above
    (λ m n r q f a b e. c.failed-then-from-across.ensures f
    (simp to_z-of_z (matrix_misplaced _ m n r q f (c.misplaced-then-from-across.ensures.is r q (simp to_z-of_z a) (simp to_z-of_z b)) e)))
    (term_value c.args.registers.now c.args.pair.now.left) (term_value c.args.registers.now c.args.pair.now.right) c.operand-row.ensures c.operand-column.ensures

pub returns-clause-runs : goal.returns-clause-runs
returns-clause-runs c = λ turns.
    let fx : FitsSigned w64 c.operand-row.result = search rules in
    let fy : FitsSigned w64 c.operand-column.result = search rules in
    let fz : FitsSigned w64 c.operand-x.result = search rules in
    let o = simp to_z-of_z at c.offset-down.ensures in
    let p = simp to_z-of_z at c.offset-across.ensures in
    let inside : c.offset-down.result < c.args.rows = omega arith in
    let below : c.offset-across.result < c.args.columns = omega arith in
    let small : c.args.rows < 4294967296 = omega arith in
    let few : c.args.columns < 4294967296 = omega arith in
    let did = c.put.ensures.runs (term_value c.args.registers.now c.args.term.now) turns (simp to_z-of_z c.operand-x.ensures) in
    matrix_put c.args.first c.args.rows c.args.columns c.offset-down.result c.offset-across.result c.args.next c.put.result c.args.registers.now
    c.put.new.registers turns c.operand-row.result c.operand-column.result (term_value c.args.registers.now c.args.term.now) o p inside below small few
    (term_value c.args.registers.now c.args.pair.now.left) (term_value c.args.registers.now c.args.pair.now.right) c.operand-row.ensures c.operand-column.ensures
    (rw (← c.matrix_offset-place.ensures.place) did)
