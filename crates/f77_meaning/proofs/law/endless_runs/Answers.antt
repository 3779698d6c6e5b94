use Rattle.f77_meaning.proofs.Endless.{comes_back, meets_limits}
use Rattle.f77_meaning.proofs.law.endless_runs.Goals as goal

pub returns-clause-comes_back : goal.returns-clause-comes_back
returns-clause-comes_back c = comes_back

pub returns-clause-limits : goal.returns-clause-limits
returns-clause-limits c = meets_limits
