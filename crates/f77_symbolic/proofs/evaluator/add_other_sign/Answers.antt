use Rattle.f77_symbolic.proofs.Common.{arith, ints, ok_then}
use Rattle.f77_symbolic.proofs.Expecting.{at_most_zero}
use Rattle.f77_symbolic.proofs.evaluator.add_other_sign.Goals as goal

pub returns-in-Less : goal.returns-in-Less
returns-in-Less c =
    ok_then c.add_below.result c.add_below.ensures
    (λ x adds v holds never. adds v holds (grind (arith, ints, rw c.in-Less.is at never)))

pub returns-in-Greater : goal.returns-in-Greater
returns-in-Greater c =
    ok_then c.add_below-in-Greater.result c.add_below-in-Greater.ensures
    (λ x adds v holds never. let low = at_most_zero _ (rw c.in-Greater.is at never) in adds v holds (omega (arith, ints, low)))
