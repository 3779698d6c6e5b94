use Rattle.f77_symbolic.proofs.Common.{arith, ints, w64, to_z-of_z, SFits, ok_then}
use Rattle.f77_symbolic.proofs.evaluator.Evaluator.plus.Goals as goal

pub returns : goal.returns
returns c =
    let m : SFits w64 c.args.m = c.ranges.m in
    let constant : SFits w64 c.args.constant = c.ranges.constant in
    ok_then c.combination.result (simp to_z-of_z at c.combination.ensures)
    (λ sum is v. let one = simp to_z-of_z at (c.constant_term.ensures v) in let e = is v in omega (arith, ints, e, one))
