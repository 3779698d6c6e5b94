use Rattle.mothra_exchange.proofs.Others.{offer_only, take_only, close_only}
use Rattle.mothra_exchange.proofs.law.calls_change_one_operator.Goals as goal

pub returns-clause-offer : goal.returns-clause-offer
returns-clause-offer c = offer_only

pub returns-clause-take : goal.returns-clause-take
returns-clause-take c = take_only

pub returns-clause-close : goal.returns-clause-close
returns-clause-close c = close_only
