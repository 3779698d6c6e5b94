use Rattle.f77_symbolic.proofs.Common.{rules, arith, ◌∙◌, ap, w64, ◌*ℤ◌, ints, to_z-of_z, SFits, ok_then, sum_value}
use Rattle.f77_symbolic.proofs.Answering.{stays_same}
use Rattle.f77_symbolic.proofs.evaluator.Evaluator.multiplied.Goals as goal

pub returns-in-Some-clause-tells : goal.returns-in-Some-clause-tells
returns-in-Some-clause-tells c =
    let fits : SFits w64 c.in-Some.m = search rules in
    ok_then c.plus.result c.plus.ensures
    (λ term is start v interprets holds.
    let value = (simp to_z-of_z at is) v in
    let a = ap (λ z. z *ℤ sum_value v c.args.b.now) (c.in-Some.ensures v) in
    (stays_same v c.args.self.now holds, omega (arith, ints, value, a)))

pub returns-clause-tells : goal.returns-clause-tells
returns-clause-tells c start v interprets holds =
    let made = c.in_ok-product.ensures.made start v interprets holds tt in (made.0, c.in_ok-atom_term.ensures v ∙ made.1)
