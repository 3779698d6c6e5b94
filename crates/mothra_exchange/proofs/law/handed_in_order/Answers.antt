use Rattle.mothra_exchange.proofs.Histories.{in_order}
use Rattle.mothra_exchange.proofs.law.handed_in_order.Goals as goal

pub returns : goal.returns
returns c = λ C counts log h op. in_order C counts _ log h
