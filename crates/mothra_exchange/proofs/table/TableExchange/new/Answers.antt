use Rattle.mothra_exchange.proofs.Common.{rules, IsSoundExchange}
use Rattle.mothra_exchange.proofs.Ends.{begins}
use Rattle.mothra_exchange.proofs.Showing.{shows_one_log}
use Rattle.mothra_exchange.proofs.Standings.{are_in_order}
use Rattle.mothra_exchange.proofs.table.TableExchange.new.Goals as goal

pub of_words-requires : goal.of_words-requires
of_words-requires g c = begins _ _ _ c.opening_words.ensures (search rules) c.in_default.ensures.none

pub returns-in-Ok-clause-in_order : goal.returns-in-Ok-clause-in_order
returns-in-Ok-clause-in_order g c = λ s h. are_in_order _ _ s.words s.views h

pub returns-in-Ok-clause-log : goal.returns-in-Ok-clause-log
returns-in-Ok-clause-log g c = λ pos s h.
    let sound : IsSoundExchange g.row.C c.args.counts s.words s.views = search rules in
    shows_one_log _ _ s.words s.views sound pos
