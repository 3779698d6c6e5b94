use Rattle.mothra_exchange.specs.Table.{IsPassOf}
use Rattle.exchange_tests.proofs.full_fields.fills.Given as goal

abbrev pub invariant-loop-before : goal.invariant-loop-before
invariant-loop-before g l = IsPassOf l.exchange l.pass
