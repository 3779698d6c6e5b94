use Rattle.f77_meaning.proofs.Unreached.{may_be_another}
use Rattle.f77_meaning.proofs.law.unreached_statement.Goals as goal

pub returns : goal.returns
returns c = may_be_another
