use Rattle.mothra_equivalents.proofs.Common.{◌≡◌}
use Rattle.mothra_equivalents.proofs.Listed.{IsFoundUpTo}
use Rattle.mothra_equivalents.proofs.equivalents.equivalents_of.Given as goal

abbrev pub invariant-loop-ticket : goal.invariant-loop-ticket
invariant-loop-ticket l = record {
  tours : l.prover.tours ≡ l.plan.checked;
  found : IsFoundUpTo l.plan l.most l.ticket-items l.ticket-index l.list.items l.others.items;
}
