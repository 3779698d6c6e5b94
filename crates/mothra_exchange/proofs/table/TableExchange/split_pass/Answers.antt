use Rattle.mothra_exchange.proofs.Common.{rules}
use Rattle.mothra_exchange.proofs.Halves.{splits}
use Rattle.mothra_exchange.proofs.table.TableExchange.split_pass.Goals as goal

pub split_seat-requires : goal.split_seat-requires
split_seat-requires g c = (c.requires.own, search rules, splits _ _ _ _ c.requires.part)
