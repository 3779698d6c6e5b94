use Rattle.f77_terms.proofs.Common.{arith, IsBelow}
use Rattle.f77_terms.proofs.There.{at_item}
use Rattle.f77_terms.proofs.elimination.eliminated.Goals as goal

pub loop-bound-preserved : goal.loop-bound-preserved
loop-bound-preserved c v all =
    c.in_ok-add_without.ensures v (c.loop-bound.invariant v all)
    (at_item (IsBelow v) c.args.bounds.now c.loop-bound.bound-index c.bound-item.result (omega arith) c.bound-item.is all) all
