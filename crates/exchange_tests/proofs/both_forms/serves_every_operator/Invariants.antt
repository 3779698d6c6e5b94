use Rattle.exchange_tests.proofs.both_forms.serves_every_operator.Given as goal

abbrev pub invariant-loop-op : goal.invariant-loop-op
invariant-loop-op g l = g.G.Gate.is_pass l.gate l.pass
