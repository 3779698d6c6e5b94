use Rattle.mothra_exchange.proofs.Common.{◌≡◌, length}
use Rattle.mothra_exchange.proofs.Ends.{IsUnpacked}
use Rattle.mothra_exchange.proofs.table.TableExchange.close_all.Given as goal

abbrev pub invariant-loop-i : goal.invariant-loop-i
invariant-loop-i g l = (length l.words ≡ 22) × IsUnpacked l.i l.closed.words.items l.words
