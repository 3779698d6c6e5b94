use Rattle.f77_symbolic.proofs.Common.{refl, option_map, ok_then}
use Rattle.f77_symbolic.proofs.Matching.{same_everywhere}
use Rattle.f77_symbolic.proofs.evaluator.Evaluator.show_same.Goals as goal

pub returns-clause-same : goal.returns-clause-same
returns-clause-same c =
    ok_then c.show_same_in-2.result c.show_same_in-2.ensures.same
    (λ x second start v there holds left right slot.
    let one = c.in_ok-show_same_in.ensures.same start v (c.show_same_in-2.ensures.extends.back start v there) holds refl left right left in
    let two = second start v there one.0.holds one.0.own left right right in
    same_everywhere (option_map (λ list. list.now) c.args.only) start.cells v c.args.left.now c.args.right.now one.1 two.1 slot)
