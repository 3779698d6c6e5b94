use Rattle.mothra_exchange.specs.Table.{IsPassOf}
use Rattle.exchange_tests.proofs.offers.offers_all.Given as goal

abbrev pub invariant-loop-before : goal.invariant-loop-before
invariant-loop-before g l = IsPassOf l.exchange l.pass
