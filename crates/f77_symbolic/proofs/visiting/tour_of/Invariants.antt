use Rattle.f77_symbolic.proofs.Common.{take, All, IsToured}
use Rattle.f77_symbolic.proofs.visiting.tour_of.Given as goal

abbrev pub invariant-loop-entry : goal.invariant-loop-entry
invariant-loop-entry l = All (IsToured l.statements l.cuts l.entries l.tour.items) (take l.entry-index l.entries)
