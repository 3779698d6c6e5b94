use Rattle.f77_symbolic.proofs.Following.{equivalent_where_followed}
use Rattle.f77_symbolic.proofs.law.equivalent_where_followed.Goals as goal

pub returns : goal.returns
returns c = equivalent_where_followed
