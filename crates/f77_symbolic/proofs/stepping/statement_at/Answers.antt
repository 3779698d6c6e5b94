use Rattle.f77_symbolic.proofs.Common.{sym}
use Rattle.f77_symbolic.proofs.stepping.statement_at.Goals as goal

pub returns : goal.returns
returns c = rw (sym c.deref.ensures) at c.item_at.ensures
