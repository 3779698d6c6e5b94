use Rattle.f77_symbolic.proofs.Common.{All, IsTourOf}
use Rattle.f77_symbolic.proofs.equivalent.Tours.of.Given as goal

abbrev pub invariant-loop-joins : goal.invariant-loop-joins
invariant-loop-joins l = All (λ tour. IsTourOf l.checked tour.items) l.list.items
