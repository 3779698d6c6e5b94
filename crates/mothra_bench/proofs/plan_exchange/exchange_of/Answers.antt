use Rattle.mothra_bench.proofs.FirstItems.{keeps_lists}
use Rattle.mothra_bench.proofs.plan_exchange.exchange_of.Goals as goal

pub returns-in-Ok-clause-lists : goal.returns-in-Ok-clause-lists
returns-in-Ok-clause-lists c = λ s rule.
    let sound = c.in-Ok.ensures.between s rule in
    keeps_lists _ c.args.plan.now c.counts.result s.words s.views sound c.counts.ensures.counts
