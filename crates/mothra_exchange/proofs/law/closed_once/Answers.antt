use Rattle.mothra_exchange.proofs.Standings.{closing_stands, no_other_closing}
use Rattle.mothra_exchange.proofs.law.closed_once.Goals as goal

pub returns-clause-closed : goal.returns-clause-closed
returns-clause-closed c = closing_stands

pub returns-clause-no_other : goal.returns-clause-no_other
returns-clause-no_other c = no_other_closing
