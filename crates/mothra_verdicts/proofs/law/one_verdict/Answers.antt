use Rattle.mothra_verdicts.proofs.Kills.{one_verdict}
use Rattle.mothra_verdicts.proofs.law.one_verdict.Goals as goal

pub returns : goal.returns
returns c = one_verdict c.one_outcome.ensures.answer
