use Rattle.f77_code.proofs.Twins as twins
use Rattle.f77_code.proofs.law.twins_do_the_same.Goals as goal

pub returns-clause-equal : goal.returns-clause-equal
returns-clause-equal c = twins.twins_equal

pub returns-clause-times : goal.returns-clause-times
returns-clause-times c = twins.times_of_twins
