use Rattle.f77_terms.proofs.Common.{Valuation, IsBelow, AreKnown}
use Rattle.f77_terms.proofs.ranges.narrow.Given as goal

abbrev pub invariant-loop-place : goal.invariant-loop-place
invariant-loop-place l = (v : Valuation) → AreKnown v l.initial.known → IsBelow v l.bound → AreKnown v l.known
