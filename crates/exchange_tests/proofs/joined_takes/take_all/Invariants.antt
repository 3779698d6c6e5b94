use Rattle.mothra_exchange.specs.Table.{IsPassOf}
use Rattle.exchange_tests.proofs.joined_takes.take_all.Given as goal

abbrev pub invariant-loop : goal.invariant-loop
invariant-loop g l = IsPassOf l.exchange l.pass
