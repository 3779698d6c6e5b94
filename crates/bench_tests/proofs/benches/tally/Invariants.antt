use Rattle.mothra_exchange.specs.Table.{IsPassOf}
use Rattle.bench_tests.proofs.benches.tally.Given as goal

abbrev pub invariant-loop-op : goal.invariant-loop-op
invariant-loop-op g l = IsPassOf l.exchange l.pass
