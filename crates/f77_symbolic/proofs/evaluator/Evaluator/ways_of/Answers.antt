use Rattle.f77_symbolic.proofs.evaluator.Evaluator.ways_of.Goals as goal

pub returns-in_ok-unless_unknown-in-Unknown-clause-refuted : goal.returns-in_ok-unless_unknown-in-Unknown-clause-refuted
returns-in_ok-unless_unknown-in-Unknown-clause-refuted c v holds =
    c.in_ok-is_dead-in-Unknown.ensures c.in_ok-unless_unknown-in-Unknown.ensures v (c.in_ok-come_on-in-Unknown.ensures.path v holds)
