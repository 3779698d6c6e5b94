use Rattle.f77_terms.proofs.Common.{arith, ints, IsBelow}
use Rattle.f77_terms.proofs.There.{at_item}
use Rattle.f77_terms.proofs.bounds.joint_bounds.Goals as goal

pub loop-bound-preserved : goal.loop-bound-preserved
loop-bound-preserved c v first all =
    let here = at_item (IsBelow v) c.args.b.now c.loop-bound.bound-index c.bound-item.result (omega arith) c.bound-item.is all in
    let same = c.in_ok-copy.ensures.value v in
    c.in_ok-add_tight.ensures v (c.loop-bound.invariant v first all) (omega (arith, ints, here, same))
