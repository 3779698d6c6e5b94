use Rattle.f77_symbolic.proofs.evaluator.Evaluator.+act.Given as goal

abbrev pub decreases-act : goal.decreases-act
decreases-act l = goal.size-act l
