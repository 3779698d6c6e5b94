use Rattle.f77_code.proofs.Common.{FitsSigned, w64, rules, to_z-of_z, register}
use Rattle.f77_code.proofs.evaluate.+values.Goals as goal

pub evaluated-returns-in-MatrixAt : goal.evaluated-returns-in-MatrixAt
evaluated-returns-in-MatrixAt t c =
    let fx : FitsSigned w64 c.read-row.result = search rules in
    let fy : FitsSigned w64 c.read-column.result = search rules in
    let fz : FitsSigned w64 c.matrix_element.result = search rules in
    rw c.in-MatrixAt.is
    (simp to_z-of_z
    (c.matrix_element.ensures (register c.args.registers.now c.in-MatrixAt.row) (register c.args.registers.now c.in-MatrixAt.column) (simp to_z-of_z c.read-row.ensures)
    (simp to_z-of_z c.read-column.ensures)))
