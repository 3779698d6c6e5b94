use Rattle.f77_symbolic.proofs.Common.{refl}
use Rattle.f77_symbolic.proofs.evaluator.Evaluator.settled_entry.Goals as goal

pub returns-clause-entry : goal.returns-clause-entry
returns-clause-entry c start v is holds inside =
    let settled = c.settle-2.ensures v (c.settle.ensures v holds) in
    record {
      place = refl;
      inside = (rw (c.deref-2.ensures.value, c.deref.ensures) at c.in_ok-facts.ensures) start v is settled inside;
      left = (rw (c.deref-4.ensures.value, c.deref-3.ensures) at c.in_ok-loops.ensures) v settled;
    }
