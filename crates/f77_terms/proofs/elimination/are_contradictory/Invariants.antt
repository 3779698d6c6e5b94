use Rattle.f77_terms.proofs.Common.{Valuation, AreBelow, AreKnown}
use Rattle.f77_terms.proofs.elimination.are_contradictory.Given as goal

abbrev pub invariant-loop : goal.invariant-loop
invariant-loop l = (v : Valuation) → AreKnown v l.known → AreBelow v l.bounds → AreBelow v l.left.items
