use Rattle.f77_terms.proofs.Common.{Valuation, AreBelow}
use Rattle.f77_terms.proofs.elimination.eliminated.Given as goal

abbrev pub invariant-loop-bound : goal.invariant-loop-bound
invariant-loop-bound l = (v : Valuation) → AreBelow v l.bounds → AreBelow v l.left.items
