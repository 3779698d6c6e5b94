use Rattle.f77_syntax.proofs.Numbers.{number_step}
use Rattle.f77_syntax.proofs.scan.number.Goals as goal

pub loop-c-preserved : goal.loop-c-preserved
loop-c-preserved c =
    let b = c.saturating_add.ensures in
    number_step c.args.digits.now c.loop-c.c-index c.loop-c.n c.saturating_mul.result c.saturating_add.result c.min-n.result c.requires
    c.loop-c-test.true c.loop-c.invariant c.saturating_mul.ensures (rw c.from.ensures at b) c.min-n.ensures
