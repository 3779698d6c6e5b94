use Rattle.mothra_exchange.proofs.Common.{◌∙◌, ap, rules, counts_of, history}
use Rattle.mothra_exchange.proofs.Starts.{starts, counts_of-opening}
use Rattle.mothra_exchange.proofs.state.State.new.Goals as goal

pub invariant_of-result : goal.invariant_of-result
invariant_of-result g c = starts _ c.args.counts _ _ _ (search rules) c.in_default.ensures.none c.opening_state.ensures c.in-Ok.ensures.items (search rules)

pub returns-in-Ok-clause-empty : goal.returns-in-Ok-clause-empty
returns-in-Ok-clause-empty g c =
    let p = ap counts_of c.opening_state.ensures ∙ counts_of-opening c.args.counts in
    let q = c.in-Ok.ensures.items in
    λ i. history (p i) (q i)
