use Rattle.f77_run.proofs.Common.{◌≡◌, length, AreNone}
use Rattle.f77_run.proofs.visits.Visits.none.Given as goal

abbrev pub invariant-loop-statement : goal.invariant-loop-statement
invariant-loop-statement l = record { count : length l.list.items ≡ l._statement; none : AreNone l.list.items }
