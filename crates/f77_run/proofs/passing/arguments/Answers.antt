use Rattle.f77_run.proofs.Common.{length, sym, subst, arith, zip_end, AreFitting}
use Rattle.f77_run.proofs.Misfits.{fit_whole}
use Rattle.f77_run.proofs.passing.arguments.Goals as goal

pub returns-clause-fitting : goal.returns-clause-fitting
returns-clause-fitting c =
    let shapes = c.args.shapes.now in
    let dummies = c.args.dummies.now in
    let end = zip_end shapes dummies c.loop-shape.yielded _ c.loop-shape.shape-iterator c.next.new.self c.next.result (cc) (cc) c.loop-shape.yielded_by c.in-None.is c.next.ensures.steps in
    subst (AreFitting shapes) (sym c.new.ensures)
    (fit_whole shapes (length c.loop-shape.yielded) c.loop-shape.arguments.items (omega (arith, end, c.requires.long)) c.loop-shape.invariant.fitting)
