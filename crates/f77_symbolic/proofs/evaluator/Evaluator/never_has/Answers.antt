use Rattle.f77_symbolic.proofs.Common.{sym, subst}
use Rattle.f77_symbolic.specs.Prelude.{AreBelow}
use Rattle.f77_symbolic.proofs.evaluator.Evaluator.never_has.Goals as goal

pub returns : goal.returns
returns c told v holds has =
    c.in_ok-refute.ensures told v holds (subst (AreBelow v) (sym c.deref-2.ensures.value) (c.in_ok-bounds.ensures v has))
