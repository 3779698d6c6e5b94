use Rattle.f77_terms.proofs.Common.{Valuation, AreBelow, AreKnown}
use Rattle.f77_terms.proofs.ranges.narrow_all.Given as goal

abbrev pub invariant-loop-bound : goal.invariant-loop-bound
invariant-loop-bound l = (v : Valuation) → AreKnown v l.initial.known → AreBelow v l.bounds → AreKnown v l.known
