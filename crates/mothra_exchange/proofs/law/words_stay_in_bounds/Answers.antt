use Rattle.mothra_exchange.proofs.Standings.{has_word, in_bounds, same_count}
use Rattle.mothra_exchange.proofs.law.words_stay_in_bounds.Goals as goal

pub returns-clause-word : goal.returns-clause-word
returns-clause-word c = has_word

pub returns-clause-bounds : goal.returns-clause-bounds
returns-clause-bounds c = in_bounds

pub returns-clause-count : goal.returns-clause-count
returns-clause-count c = same_count
