use Rattle.mothra_exchange.specs.Table.{IsPassOf}
use Rattle.bench_tests.proofs.benches.hand_out.Given as goal

abbrev pub invariant-loop-before : goal.invariant-loop-before
invariant-loop-before l = IsPassOf l.exchange l.pass
