use Rattle.f77_terms.proofs.Common.{Valuation, AreBelow, AreKnown}
use Rattle.f77_terms.proofs.splitting.is_impossible.Given as goal

abbrev pub invariant-loop : goal.invariant-loop
invariant-loop l = (v : Valuation) → AreKnown v l.initial.ranges → AreBelow v l.bounds → AreKnown v l.ranges
