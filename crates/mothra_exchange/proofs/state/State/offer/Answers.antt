use Rattle.mothra_exchange.proofs.Common.{◌<◌, ◌∙◌, sym, length, ap, rules, vec_capacity, log_after_offer}
use Rattle.mothra_exchange.proofs.Logs.{offer_keeps, view_more, fits_offer}
use Rattle.mothra_exchange.proofs.state.State.offer.Goals as goal

pub unreachable-requires : goal.unreachable-requires
unreachable-requires g c =
    let answer = sym c.offer_answer-answer.ensures ∙ c.in-Accepted.is in
    let room : length c.self.inside.log.items < vec_capacity c.self.inside.log = fits_offer _ _ _ _ _ c.args.ticket.op _ c.index-i.ensures.value c.self.invariant answer in
    search rules

pub invariant_of-self : goal.invariant_of-self
invariant_of-self g c =
    let answer = sym c.offer_answer-answer.ensures ∙ c.in-Accepted.is in
    offer_keeps _ _ _ _ _ _ c.args.ticket _ c.index-i.ensures.value c.self.invariant c.push.ensures.capacity c.in-Ok.ensures.items answer

pub returns-in-Ok-clause-log : goal.returns-in-Ok-clause-log
returns-in-Ok-clause-log g c = view_more _ _ _ _ _ _ _ _ c.self.view_is (search rules) (search rules) c.in-Ok.ensures.items (ap (log_after_offer c.args.self.now.events c.args.ticket) c.in-Accepted.is)
