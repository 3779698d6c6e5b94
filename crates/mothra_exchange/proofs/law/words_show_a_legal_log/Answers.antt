use Rattle.mothra_exchange.proofs.Showing.{shows_one_log, loaded_shows}
use Rattle.mothra_exchange.proofs.law.words_show_a_legal_log.Goals as goal

pub returns-clause-words : goal.returns-clause-words
returns-clause-words c = shows_one_log

pub returns-clause-loaded : goal.returns-clause-loaded
returns-clause-loaded c = loaded_shows
