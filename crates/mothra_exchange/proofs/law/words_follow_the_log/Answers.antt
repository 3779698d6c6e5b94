use Rattle.mothra_exchange.proofs.Common.{ticket}
use Rattle.mothra_exchange.proofs.Follows.{offer_follows, take_follows, close_follows}
use Rattle.mothra_exchange.proofs.law.words_follow_the_log.Goals as goal

pub returns-clause-offer : goal.returns-clause-offer
returns-clause-offer c = λ C counts log h op k w. offer_follows C counts log (ticket op k) w h

pub returns-clause-take : goal.returns-clause-take
returns-clause-take c = λ C counts log h op t w. take_follows C counts log op t w h

pub returns-clause-close : goal.returns-clause-close
returns-clause-close c = λ C counts log h op w. close_follows C counts log op w h
