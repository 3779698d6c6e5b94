use Rattle.f77_run.proofs.Common.{one_answer}
use Rattle.f77_run.proofs.interpreter.run.Goals as goal

pub returns-clause-only : goal.returns-clause-only
returns-clause-only c = λ other also. one_answer _ _ _ other _ also c.in_ok-outcome.ensures.outcome
