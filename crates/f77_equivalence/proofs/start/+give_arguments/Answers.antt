use Rattle.f77_equivalence.proofs.Common.{◌≡◌, ◌∷◌, sym}
use Rattle.f77_equivalence.proofs.Starting.{argument_given}
use Rattle.f77_equivalence.proofs.start.+give_arguments.Goals as goal

pub returns : goal.returns
returns t c cells arguments inside fits storable =
    let first = c.in-Some.first.now in
    let dummies = c.in-Some.dummies.now in
    let shape = c.in-Some-split_first.shape.now in
    let shapes = c.in-Some-split_first.shapes.now in
    let starts : c.args.dummies.now ≡ first ∷ dummies = c.in-Some.ensures.cases.0 in
    let shaped : c.args.shapes.now ≡ shape ∷ shapes = c.in-Some-split_first.ensures.cases.0 in
    rw starts
    (argument_given c.args.facts.now.items c.give.new.facts.items c.give_arguments.new.facts.items first dummies shape shapes c.filled-fact.result
    (rw (sym c.size.ensures) c.give.ensures) (λ value kind number. c.filled-fact.ensures value kind (c.numbers_of.ensures value kind number))
    c.give_arguments.ensures cells arguments inside (rw shaped at fits) storable)
