use Rattle.f77_code.proofs.Common.{◌≡◌, ◌∙◌, ap, Some, slice_get, round}
use Rattle.f77_code.proofs.Placed.{read_at, round_there, left_onward}
use Rattle.f77_code.proofs.places.Places.left.Goals as goal

pub onward-requires-clause-ends : goal.onward-requires-clause-ends
onward-requires-clause-ends c =
    let statements = c.args.statements.now in
    let end = c.index-statements-terminal.result in
    let at : slice_get statements c.args.terminal ≡ Some end = read_at statements c.args.terminal end c.requires.terminal c.index-statements-terminal.is in
    let ends : c.round.result.now ≡ round c.args.d end.ends.items =
    c.round.ensures ∙ ap (round c.args.d) (c.deref-2.ensures.value ∙ ap (λ r. r.ends.items) c.deref.ensures) in
    let there = round_there statements c.args.terminal c.args.d end at c.requires.have in
    rw (ends, c.requires.places.count) there

pub returns : goal.returns
returns c =
    let statements = c.args.statements.now in
    let end = c.index-statements-terminal.result in
    let at : slice_get statements c.args.terminal ≡ Some end = read_at statements c.args.terminal end c.requires.terminal c.index-statements-terminal.is in
    let ends : c.round.result.now ≡ round c.args.d end.ends.items =
    c.round.ensures ∙ ap (round c.args.d) (c.deref-2.ensures.value ∙ ap (λ r. r.ends.items) c.deref.ensures) in
    left_onward statements c.args.terminal c.args.d end c.round.result.now c.deref-3.result.now.next c.onward.result at ends (ap (λ r. r.next) c.deref-3.ensures)
    (c.onward.ensures statements c.requires.places)
