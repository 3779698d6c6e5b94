use Rattle.f77_symbolic.proofs.Common.{◌≡◌, arith, ints, sym, ◌∙◌, state, ok_then, turns_of}
use Rattle.f77_symbolic.proofs.Matching.{same_cells_of}
use Rattle.f77_symbolic.proofs.Comparisons.{same_place}
use Rattle.f77_symbolic.proofs.Settling.{met}
use Rattle.f77_symbolic.proofs.evaluator.Evaluator.show_met.Goals as goal

pub returns-clause-rests : goal.returns-clause-rests
returns-clause-rests c =
    let pair = c.args.pair.now in
    ok_then c.show_same.result c.show_same.ensures.same
    (λ x same change spare checked start v ready there within none.
    met spare checked change start v pair c.if-pair.false (omega (arith, ints))
    (λ on.
    let holds = c.in_ok-come_on.ensures.path v on.holds in
    let turns : turns_of v pair.right.turns.items ≡ turns_of v pair.left.turns.items =
    rw (c.deref-2.ensures.value, c.deref.ensures, c.deref-4.ensures.value, c.deref-3.ensures) at c.in_ok-show_same_turns.ensures v holds in
    let all = rw (c.deref-6.ensures.value, c.deref-5.ensures, c.deref-8.ensures.value, c.deref-7.ensures) at same start v there holds in
    let cells = same_cells_of start.cells v pair.left.writes.items pair.right.writes.items (all on.left on.right) in
    let place : pair.right.place ≡ pair.left.place = same_place pair.left.place pair.right.place (sym c.eq.ensures ∙ c.in_ok-unless_unknown.ensures) in
    λ i. state (place i) (cells i) (turns i)))
