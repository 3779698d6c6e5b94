use Rattle.f77_symbolic.proofs.Common.{arith, subst, ints, Option, ok_then, Pair, IsWithin, RestsOn}
use Rattle.f77_symbolic.proofs.evaluator.Evaluator.next_pair.Goals as goal

pub returns-in-Some-clause-rests : goal.returns-in-Some-clause-rests
returns-in-Some-clause-rests c =
    ok_then c.other_turn-in-Some.result c.other_turn-in-Some.ensures.rests
    (λ next rests spare checked start v ready there within settled.
    let first = subst (λ (o : Option Pair). RestsOn c.own_turn.new.self.atoms c.args.change.now o c.args.pair.now) c.in-Some.is c.in_ok-next.ensures.rests in
    let on : IsWithin spare c.in-Some.next = omega (arith, ints, within, c.if-branch-pair.true) in
    first spare checked start v ready (c.other_turn-in-Some.ensures.extends.back start v there) within
    (record { within = on; follows = rests spare checked start v ready there on settled }))
