use Rattle.mothra_exchange.proofs.Common.{rules}
use Rattle.mothra_exchange.proofs.Steps.{loads_at}
use Rattle.mothra_exchange.proofs.table.TableExchange.load.Goals as goal

pub load-requires : goal.load-requires
load-requires g c = (c.requires, search rules, loads_at _ _ _ _ _ c.args.op _ c.index.ensures.value c.args.pass.now.has_a_part)
