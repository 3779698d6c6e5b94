use Rattle.mothra_ops.proofs.Common.{◌≡◌, ◌++◌}
use Rattle.mothra_ops.specs.{tickets}
use Rattle.mothra_ops.proofs.tickets.push_tickets.Given as goal

abbrev pub invariant-loop-before : goal.invariant-loop-before
invariant-loop-before l = l.tickets.items ≡ l.fn.tickets.items ++ tickets l.op l.before
