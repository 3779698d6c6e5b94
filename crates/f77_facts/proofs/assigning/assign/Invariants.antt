use Rattle.f77_facts.proofs.Stored.{Widens}
use Rattle.f77_facts.proofs.assigning.assign.Given as goal

abbrev pub invariant-loop-slot : goal.invariant-loop-slot
invariant-loop-slot l = Widens l.initial.facts l.facts l.fn.slots.first l.slot l.fact
