use Rattle.f77_run.proofs.Common.{length, sym, ◌∙◌, ap, subst, refl, ◌<◌, are_ready, have_places}
use Rattle.f77_run.proofs.Changing.{checked_few, checked_places, checked_ready, grown_begins}
use Rattle.f77_run.proofs.changed.put.Goals as goal

pub replace-requires-clause-have : goal.replace-requires-clause-have
replace-requires-clause-have c = ap have_places c.statements.ensures.statements ∙ checked_places c.args.checked.now c.statements.ensures.checked

pub replace-requires-clause-few : goal.replace-requires-clause-few
replace-requires-clause-few c = subst (λ list. length list < 2147483648) (sym c.statements.ensures.statements) (checked_few c.args.checked.now c.statements.ensures.checked)

pub replace-requires-clause-all : goal.replace-requires-clause-all
replace-requires-clause-all c =
    ap (λ n. are_ready n c.statements.result.now) c.requires.slots
    ∙ ap (are_ready c.args.checked.now.slots) c.statements.ensures.statements
    ∙ checked_ready c.args.checked.now c.statements.ensures.checked

pub restore-requires-clause-image : goal.restore-requires-clause-image
restore-requires-clause-image c =
    grown_begins c.args.checked.now c.statements.ensures.checked c.args.code.now c.replace.new.self c.args.image.now
    (record { items = c.add_constants.new.registers; counters = c.args.image.now.counters }) c.requires.own c.replace.ensures.same
    c.requires.image c.add_constants.ensures.kept refl
