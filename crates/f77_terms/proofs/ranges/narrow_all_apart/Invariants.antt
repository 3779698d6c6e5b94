use Rattle.f77_terms.proofs.Common.{All, Valuation, AreKnown, IsUnequal}
use Rattle.f77_terms.proofs.ranges.narrow_all_apart.Given as goal

abbrev pub invariant-loop-term : goal.invariant-loop-term
invariant-loop-term l = (v : Valuation) → AreKnown v l.initial.known → All (IsUnequal v) l.terms → AreKnown v l.known
