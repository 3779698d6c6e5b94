use Rattle.f77_terms.proofs.Common.{Valuation, IsBelow, AreBelow}
use Rattle.f77_terms.proofs.elimination.add_without.Given as goal

abbrev pub invariant-loop-other : goal.invariant-loop-other
invariant-loop-other l =
    (v : Valuation) → AreBelow v l.initial.left.items → IsBelow v l.bound → AreBelow v l.bounds → AreBelow v l.left.items
