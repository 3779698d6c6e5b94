use Rattle.f77_terms.proofs.elimination.are_contradictory.Goals as goal

pub returns-then-is_refuted : goal.returns-then-is_refuted
returns-then-is_refuted c e v known below =
    (rw c.deref.ensures.value at (c.is_refuted.ensures c.if-is_refuted.true v)) (c.loop.invariant v known below)

pub loop-preserved : goal.loop-preserved
loop-preserved c v known below =
    (rw c.deref-in-loop.ensures.value at (c.in_ok-without.ensures v))
    (c.in_ok-add_known.ensures v known (c.loop.invariant v known below))
