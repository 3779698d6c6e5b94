use Rattle.f77_meaning.proofs.OneAnswer.{one_answer}
use Rattle.f77_meaning.proofs.law.one_outcome.Goals as goal

pub returns-clause-answer : goal.returns-clause-answer
returns-clause-answer c = one_answer
