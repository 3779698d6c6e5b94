use Rattle.f77_code.proofs.Common.{arith, ◌<◌, ◌≤◌, FitsSigned, w64, rules, to_z-of_z}
use Rattle.f77_code.proofs.Reading.{matrix_read, matrix_above, matrix_beyond}
use Rattle.f77_code.proofs.registers.matrix_element.Goals as goal

pub returns-then-from-down : goal.returns-then-from-down
returns-then-from-down c = λ r q a b.
    let fx = c.ranges.row in
    let fy = c.ranges.column in
    let u : FitsSigned w64 c.misplaced.result = search rules in
    let o = simp to_z-of_z at c.offset-down.ensures in
    let above : c.args.rows ≤ c.offset-down.result = omega arith in
    simp to_z-of_z
    (matrix_above c.args.registers.now c.args.first c.args.rows c.args.columns c.offset-down.result c.args.row c.args.column o c.misplaced.result above r q a b
    (c.misplaced.ensures.is r q (simp to_z-of_z a) (simp to_z-of_z b)))

pub returns-then-from-across : goal.returns-then-from-across
returns-then-from-across c = λ r q a b.
    let fx = c.ranges.row in
    let fy = c.ranges.column in
    let u : FitsSigned w64 c.misplaced-then-from-across.result = search rules in
    let o = simp to_z-of_z at c.offset-down.ensures in
    let p = simp to_z-of_z at c.offset-across.ensures in
    let inside : c.offset-down.result < c.args.rows = omega arith in
    let small : c.args.rows < 4294967296 = omega arith in
    let above : c.args.columns ≤ c.offset-across.result = omega arith in
    simp to_z-of_z
    (matrix_beyond c.args.registers.now c.args.first c.args.rows c.args.columns c.offset-down.result c.args.row c.args.column o c.offset-across.result
    c.misplaced-then-from-across.result p inside small above r q a b
    (c.misplaced-then-from-across.ensures.is r q (simp to_z-of_z a) (simp to_z-of_z b)))

pub returns : goal.returns
returns c = λ r q a b.
    let fx = c.ranges.row in
    let fy = c.ranges.column in
    let u : FitsSigned w64 c.read_at.result = search rules in
    let o = simp to_z-of_z at c.offset-down.ensures in
    let p = simp to_z-of_z at c.offset-across.ensures in
    let inside : c.offset-down.result < c.args.rows = omega arith in
    let below : c.offset-across.result < c.args.columns = omega arith in
    let small : c.args.rows < 4294967296 = omega arith in
    let few : c.args.columns < 4294967296 = omega arith in
    simp to_z-of_z
    (matrix_read c.args.registers.now c.args.first c.args.rows c.args.columns c.offset-down.result c.args.row c.args.column o c.offset-across.result
    c.matrix_offset.result c.read_at.result p inside below small few c.matrix_offset.ensures.place r q a b c.read_at.ensures)
