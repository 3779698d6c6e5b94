use Rattle.mothra_exchange.proofs.Overs.{taken_next, accepted_open}
use Rattle.mothra_exchange.proofs.law.answers_follow_the_word.Goals as goal

pub returns-clause-take : goal.returns-clause-take
returns-clause-take c = taken_next

pub returns-clause-offer : goal.returns-clause-offer
returns-clause-offer c = accepted_open
