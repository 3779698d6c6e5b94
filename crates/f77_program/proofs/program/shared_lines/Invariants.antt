use Rattle.f77_program.proofs.Common.{◌≡◌, ◌++◌}
use Rattle.f77_program.proofs.program.shared_lines.Given as goal

abbrev pub invariant-loop-line : goal.invariant-loop-line
invariant-loop-line l = l.shared.items ++ l.line-iterator.rest.items ≡ l.fn.lines.items
