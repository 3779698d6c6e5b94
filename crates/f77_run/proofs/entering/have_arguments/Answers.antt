use Rattle.f77_run.proofs.Common.{length, sym, subst, refl, zip_end, shown_cells, AreHeld}
use Rattle.f77_run.proofs.Pairs.{none_left}
use Rattle.f77_run.proofs.entering.have_arguments.Goals as goal

pub returns : goal.returns
returns c =
    let dummies = c.args.dummies.now in
    let arguments = c.args.arguments.now in
    let cells = shown_cells c.args.kinds.now c.args.registers.now in
    let end = zip_end dummies arguments c.loop-first.yielded _ c.loop-first.first-iterator c.next.new.self c.next.result (cc) (cc) c.loop-first.yielded_by c.in-None.is c.next.ensures.steps in
    (λ e. c.loop-first.invariant.whole (subst (AreHeld cells) (sym (none_left dummies arguments (length c.loop-first.yielded) end)) tt), λ all. refl)
