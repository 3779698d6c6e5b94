use Rattle.exchange_tests.proofs.both_forms.assert_turns.Given as goal

abbrev pub invariant-loop-row : goal.invariant-loop-row
invariant-loop-row g l = g.G.Gate.is_pass l.gate l.pass
