use Rattle.mothra_exchange.proofs.Common.{◌<◌, ◌∙◌, sym, length, refl, rules, vec_capacity}
use Rattle.mothra_exchange.proofs.Logs.{take_keeps, view_more, fits_take}
use Rattle.mothra_exchange.proofs.state.State.take.Goals as goal

pub unreachable-requires : goal.unreachable-requires
unreachable-requires g c =
    let answer = sym c.take_answer-answer.ensures ∙ c.in-Taken.is in
    let room : length c.self.inside.log.items < vec_capacity c.self.inside.log = fits_take _ _ _ _ c.args.op _ _ c.index-i.ensures.value c.self.invariant answer in
    search rules

pub invariant_of-self : goal.invariant_of-self
invariant_of-self g c =
    let answer = sym c.take_answer-answer.ensures ∙ c.in-Taken.is in
    take_keeps _ _ _ _ _ _ c.args.op _ _ c.index-i.ensures.value c.self.invariant c.push.ensures.capacity c.in-Ok.ensures.items answer

pub returns-in-Ok-clause-log : goal.returns-in-Ok-clause-log
returns-in-Ok-clause-log g c = view_more _ _ _ _ _ _ _ _ c.self.view_is (search rules) (search rules) c.in-Ok.ensures.items refl
