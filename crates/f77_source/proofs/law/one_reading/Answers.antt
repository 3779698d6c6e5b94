use Rattle.f77_source.proofs.Outcomes.{cards_or_first_fault, cards_or_fault}
use Rattle.f77_source.proofs.law.one_reading.Goals as goal

pub returns-clause-some : goal.returns-clause-some
returns-clause-some c = cards_or_first_fault

pub returns-clause-either : goal.returns-clause-either
returns-clause-either c = cards_or_fault
