use Rattle.mothra_exchange.proofs.Overs.{over_takes, finished_over, split_over, merge_over}
use Rattle.mothra_exchange.proofs.law.stays_over.Goals as goal

pub returns-clause-take : goal.returns-clause-take
returns-clause-take c = over_takes

pub returns-clause-finished : goal.returns-clause-finished
returns-clause-finished c = finished_over

pub returns-clause-split : goal.returns-clause-split
returns-clause-split c = split_over

pub returns-clause-merge : goal.returns-clause-merge
returns-clause-merge c = merge_over
