use Rattle.f77_run.proofs.Common.{◌∙◌, ap, rules, ◌-◌, slice_set, IsCode, own_instructions, AgreeButAt}
use Rattle.f77_tree.specs.Statement.{statement_of}
use Rattle.f77_check.specs.Patching.{IsInPlace}
use Rattle.f77_run.proofs.Changing.{alone_here, can_replace, fits_here, image_begins, legal_here, none_changed, place_within, put_in_place}
use Rattle.f77_run.proofs.changed.ChangedRunner.change.Goals as goal

pub restore-requires-clause-image : goal.restore-requires-clause-image
restore-requires-clause-image c =
    let runner = c.self.inside in
    let is = none_changed runner.checked.now runner.change runner.code runner.space.image c.self.invariant in
    image_begins runner.checked.now is.checked runner.code runner.space.image is.own.own is.begins

pub resolved-requires : goal.resolved-requires
resolved-requires c =
    let runner = c.self.inside in
    let stmt = statement_of c.args.stmt.now in
    record {
      fits = fits_here runner.checked.now runner.change c.args.self.now c.self.view_is c.args.number stmt c.requires.fits;
      alone = alone_here runner.checked.now runner.change c.args.self.now c.self.view_is c.args.number stmt c.requires.alone;
      legal = legal_here runner.checked.now runner.change c.args.self.now c.self.view_is c.args.number stmt c.requires.legal;
    }

pub put-requires-clause-place : goal.put-requires-clause-place
put-requires-clause-place c =
    let runner = c.self.inside in
    let stmt = statement_of c.args.stmt.now in
    let is = none_changed runner.checked.now runner.change runner.code runner.space.image c.self.invariant in
    let fit = fits_here runner.checked.now runner.change c.args.self.now c.self.view_is c.args.number stmt c.requires.fits in
    place_within runner.checked.now is.checked c.args.number stmt fit

pub put-requires-clause-change : goal.put-requires-clause-change
put-requires-clause-change c =
    let runner = c.self.inside in
    let stmt = statement_of c.args.stmt.now in
    let is = none_changed runner.checked.now runner.change runner.code runner.space.image c.self.invariant in
    let fit = fits_here runner.checked.now runner.change c.args.self.now c.self.view_is c.args.number stmt c.requires.fits in
    let legal = legal_here runner.checked.now runner.change c.args.self.now c.self.view_is c.args.number stmt c.requires.legal in
    let in_place : IsInPlace runner.checked.now c.args.number stmt c.deref.result.now = search rules in
    can_replace runner.checked.now is.checked c.args.number stmt fit c.deref.result.now legal in_place

pub invariant_of-self-2 : goal.invariant_of-self-2
invariant_of-self-2 c =
    let runner = c.self.inside in
    let stmt = statement_of c.args.stmt.now in
    let place = c.args.number - 1 in
    let made = c.deref.result.now in
    let code = c.put.new.code in
    let is = none_changed runner.checked.now runner.change runner.code runner.space.image c.self.invariant in
    let fit = fits_here runner.checked.now runner.change c.args.self.now c.self.view_is c.args.number stmt c.requires.fits in
    let legal = legal_here runner.checked.now runner.change c.args.self.now c.self.view_is c.args.number stmt c.requires.legal in
    let in_place : IsInPlace runner.checked.now c.args.number stmt made = search rules in
    let compiled : IsCode (slice_set runner.checked.now.statements place made) code.code = search rules in
    let others : AgreeButAt place (own_instructions code) code.code.instructions.items = search rules in
    put_in_place runner.checked.now is.checked c.args.number stmt fit made legal in_place code c.put.new.image c.of-stmt.result.value
    (ap statement_of c.of-stmt.ensures) c.put.ensures.code (c.put.ensures.same.slots ∙ c.restore.ensures.same.slots ∙ is.slots) c.put.ensures.image
    compiled others
