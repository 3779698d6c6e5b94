use Rattle.f77_check.proofs.Common.{sym, subst, take, ◌+◌, AreJumps}
use Rattle.f77_check.proofs.Jumps.{jumps_more, found_label}
use Rattle.f77_check.proofs.resolve.Resolver.jumps.Goals as goal

pub jump-requires : goal.jump-requires
jump-requires g c = (c.requires.0, found_label g.program c.args.labels.now c.loop-label.label-index 0 c.requires.1 c.loop-label-test.true)

pub loop-label-preserved : goal.loop-label-preserved
loop-label-preserved g c =
    subst (AreJumps g.program c.args.i (take (c.loop-label.label-index + 1) c.args.labels.now)) (sym c.in_ok-push.ensures.items)
    (jumps_more g.program c.args.i c.args.labels.now c.loop-label.jumps.items c.loop-label.label-index 0 c.in_ok-jump.field-0 c.loop-label-test.true
    c.loop-label.invariant c.in_ok-jump.ensures)
