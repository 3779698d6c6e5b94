use Rattle.f77_syntax.proofs.Common.{◌≡◌, drop, first_operator}
use Rattle.f77_syntax.proofs.scan.first_operator.Given as goal

-- the operators that were tried do not stand there
abbrev pub invariant-loop-op : goal.invariant-loop-op
invariant-loop-op l = first_operator (drop l.op-index l.operators) l.text ≡ first_operator l.operators l.text
