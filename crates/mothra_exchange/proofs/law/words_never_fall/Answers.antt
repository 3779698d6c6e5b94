use Rattle.mothra_exchange.proofs.Standings.{not_below, stays_closed}
use Rattle.mothra_exchange.proofs.law.words_never_fall.Goals as goal

pub returns-clause-seen : goal.returns-clause-seen
returns-clause-seen c = not_below

pub returns-clause-closed : goal.returns-clause-closed
returns-clause-closed c = stays_closed

pub returns-clause-parts : goal.returns-clause-parts
returns-clause-parts c = λ C counts words views h. h.parts
