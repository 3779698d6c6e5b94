use Rattle.f77_symbolic.proofs.Common.{take, HavePairs}
use Rattle.f77_symbolic.proofs.equivalent.pairs_at.Given as goal

abbrev pub invariant-loop-visit : goal.invariant-loop-visit
invariant-loop-visit l = HavePairs l.place l.pairs.items (take l.visit-index l.visits)
