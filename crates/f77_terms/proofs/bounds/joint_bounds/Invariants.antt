use Rattle.f77_terms.proofs.Common.{Valuation, AreBelow}
use Rattle.f77_terms.proofs.bounds.joint_bounds.Given as goal

abbrev pub invariant-loop-bound : goal.invariant-loop-bound
invariant-loop-bound l = (v : Valuation) → AreBelow v l.a → AreBelow v l.b → AreBelow v l.bounds.items
