use Rattle.f77_run.proofs.Common.{sym, ◌∙◌, ap, subst, true≢false, Decides, zip, HaveRoom, shown_cells, AreHeld, shown_by}
use Rattle.f77_run.proofs.Loaded.{shown_count}
use Rattle.f77_run.proofs.Reporting.{dummies_room, dummies_decided, dummies_misfit}
use Rattle.f77_run.proofs.ending.have_dummies.Goals as goal

pub have_arguments-requires : goal.have_arguments-requires
have_arguments-requires c =
    let checked = c.args.checked.now in
    let kinds = c.deref.ensures.value ∙ ap (λ s. s.kinds.items) c.start-start.ensures.start in
    let slots = c.deref-2.ensures.value ∙ ap (λ s. s.dummies.items) c.start-start.ensures.start in
    let count = shown_count checked.start.kinds.items c.args.registers.now c.requires.dummies.room in
    let room = dummies_room checked c.start-start.ensures.checked (shown_by checked c.args.registers.now) c.requires.dummies.count c.requires.dummies.typed c.args.arguments.now
    (c.requires.fit.0 c.if-not-fit.false) in
    rw (kinds, slots) (record {
      held = c.requires.dummies.valid;
      room = c.requires.dummies.room;
      slots = subst (λ n. HaveRoom n (zip checked.start.dummies.items c.args.arguments.now)) count room;
    })

pub returns : goal.returns
returns c =
    let checked = c.args.checked.now in
    let cells = shown_by checked c.args.registers.now in
    let kinds = c.deref.ensures.value ∙ ap (λ s. s.kinds.items) c.start-start.ensures.start in
    let slots = c.deref-2.ensures.value ∙ ap (λ s. s.dummies.items) c.start-start.ensures.start in
    dummies_decided checked c.start-start.ensures.checked cells c.requires.dummies.count c.requires.dummies.typed c.args.arguments.now c.have_arguments.result
    (c.requires.fit.0 c.if-not-fit.false)
    (subst (λ slots. Decides c.have_arguments.result (AreHeld cells (zip slots c.args.arguments.now))) slots
    (subst (λ kinds. Decides c.have_arguments.result (AreHeld (shown_cells kinds c.args.registers.now) (zip c.deref-2.result.now c.args.arguments.now))) kinds c.have_arguments.ensures))

pub returns-then-not-fit : goal.returns-then-not-fit
returns-then-not-fit c =
    dummies_misfit c.args.checked.now c.start-start.ensures.checked (shown_by c.args.checked.now c.args.registers.now) c.requires.dummies.count c.requires.dummies.typed c.args.arguments.now
    (λ fits. true≢false (sym (c.requires.fit.1 fits) ∙ c.if-not-fit.true))
