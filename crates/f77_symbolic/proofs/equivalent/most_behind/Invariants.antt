use Rattle.f77_symbolic.proofs.Common.{take, All, IsBehindBy}
use Rattle.f77_symbolic.proofs.equivalent.most_behind.Given as goal

abbrev pub invariant-loop-visits : goal.invariant-loop-visits
invariant-loop-visits l = All (IsBehindBy l.change l.most) (take l.visits-index l.tour)
