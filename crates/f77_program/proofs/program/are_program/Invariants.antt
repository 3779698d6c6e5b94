use Rattle.f77_program.proofs.Order.{Rests}
use Rattle.f77_program.proofs.program.are_program.Given as goal

abbrev pub invariant-loop-line : goal.invariant-loop-line
invariant-loop-line l = Rests l.lines l.line-index l.last
