use Rattle.mothra_exchange.proofs.Standings.{taken_stand}
use Rattle.mothra_exchange.proofs.law.taken_are_one_to_handed.Goals as goal

pub returns : goal.returns
returns c = taken_stand
