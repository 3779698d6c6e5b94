use Rattle.mothra_ops.proofs.Common.{◌≡◌, map, take, line_of, statement_of, statements_in}
use Rattle.mothra_ops.proofs.copies.Copies.of.Given as goal

abbrev pub invariant-loop-line : goal.invariant-loop-line
invariant-loop-line l = map statement_of l.stmts.items ≡ statements_in (map line_of (take l.line-index l.lines))
