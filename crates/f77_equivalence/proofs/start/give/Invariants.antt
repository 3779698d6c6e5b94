use Rattle.f77_equivalence.proofs.Common.{◌≡◌, ◌+◌, ◌-◌, length, facts_given}
use Rattle.f77_equivalence.proofs.start.give.Given as goal

abbrev pub invariant-loop-slot : goal.invariant-loop-slot
invariant-loop-slot l = record {
  count : length l.facts.items ≡ length l.initial.facts.items;
  given : facts_given l.facts.items l.slot (l.first + l.count - l.slot) l.fact ≡ facts_given l.initial.facts.items l.first l.count l.fact;
}
