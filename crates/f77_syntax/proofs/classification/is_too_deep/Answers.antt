use Rattle.f77_syntax.proofs.Common.{refl, sym, arith, ◌+◌}
use Rattle.f77_syntax.proofs.Depths.{flat_none, flat_step, open_step}
use Rattle.f77_syntax.proofs.classification.is_too_deep.Goals as goal

pub loop-c-init : goal.loop-c-init
loop-c-init c = record { depth = refl; flat = flat_none c.args.text.now }

pub deeper-depth-requires : goal.deeper-depth-requires
deeper-depth-requires c =
    let few = c.loop-c.invariant.flat c.loop-c.c-index (omega arith) in
    omega (arith, few, c.loop-c.invariant.depth)

pub returns-then-depth-gt-MOST_OPEN-clause-deep : goal.returns-then-depth-gt-MOST_OPEN-clause-deep
returns-then-depth-gt-MOST_OPEN-clause-deep c = λ _.
    let d = open_step c.args.text.now c.loop-c.c-index _ c.loop-c.depth c.deeper-depth.result c.loop-c-test.true refl c.loop-c.invariant.depth c.deeper-depth.ensures in
    (c.loop-c.c-index + 1, rw (sym d) c.if-depth-gt-MOST_OPEN.true)

pub loop-c-preserved : goal.loop-c-preserved
loop-c-preserved c =
    let d = open_step c.args.text.now c.loop-c.c-index _ c.loop-c.depth c.deeper-depth.result c.loop-c-test.true refl c.loop-c.invariant.depth c.deeper-depth.ensures in
    record { depth = d; flat = flat_step c.args.text.now c.loop-c.c-index c.loop-c.invariant.flat (rw (sym d) c.if-depth-gt-MOST_OPEN.false) }
