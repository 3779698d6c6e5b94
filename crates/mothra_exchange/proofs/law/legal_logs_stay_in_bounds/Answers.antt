use Rattle.mothra_exchange.proofs.Follows.{bounded}
use Rattle.mothra_exchange.proofs.law.legal_logs_stay_in_bounds.Goals as goal

pub returns-clause-handed : goal.returns-clause-handed
returns-clause-handed c = λ C counts log h op. (bounded C counts log h).handed _

pub returns-clause-offered : goal.returns-clause-offered
returns-clause-offered c = λ C counts log h op. (bounded C counts log h).counted _

pub returns-clause-waiting : goal.returns-clause-waiting
returns-clause-waiting c = λ C counts log h op. (bounded C counts log h).waiting _
