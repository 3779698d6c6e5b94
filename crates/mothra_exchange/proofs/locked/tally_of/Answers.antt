use Rattle.mothra_exchange.proofs.Common.{[]}
use Rattle.mothra_exchange.proofs.Tallying.{state_tallied, opening_tallied}
use Rattle.mothra_exchange.proofs.locked.tally_of.Goals as goal

pub returns-then-has_counts-clause-log : goal.returns-then-has_counts-clause-log
returns-then-has_counts-clause-log g c =
    state_tallied _ c.args.state _ _ c.into_tally.ensures.legal c.into_tally.ensures.shows (c.has_counts.ensures.0 c.if-has_counts.true)

pub returns-else-has_counts-clause-other : goal.returns-else-has_counts-clause-other
returns-else-has_counts-clause-other g c = λ _. opening_tallied _ _ c.opening_state.ensures

pub returns-else-has_counts-clause-log : goal.returns-else-has_counts-clause-log
returns-else-has_counts-clause-log g c = ([], tt, opening_tallied _ _ c.opening_state.ensures)
