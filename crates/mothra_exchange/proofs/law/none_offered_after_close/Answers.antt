use Rattle.mothra_exchange.proofs.Histories.{none_after}
use Rattle.mothra_exchange.proofs.law.none_offered_after_close.Goals as goal

pub returns : goal.returns
returns c = λ C counts log h op close offer t. none_after C counts log h close offer op t
