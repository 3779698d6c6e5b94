use Rattle.mothra_exchange.proofs.Standings.{offered_stand}
use Rattle.mothra_exchange.proofs.law.offered_are_one_to_offered.Goals as goal

pub returns : goal.returns
returns c = offered_stand
