use Rattle.f77_symbolic.proofs.Common.{◌∙◌, in_range, ok_then, sum_value}
use Rattle.f77_symbolic.proofs.Answering.{answers_at, stays_then}
use Rattle.f77_symbolic.proofs.Expecting.{modulus_answers}
use Rattle.f77_symbolic.proofs.Sized.{apart_same, rem_same, size_same}
use Rattle.f77_symbolic.proofs.evaluator.Evaluator.modulus.Goals as goal

pub returns-clause-calculates : goal.returns-clause-calculates
returns-clause-calculates c =
    ok_then c.ranged.result c.ranged.ensures.calculates
    (λ value claim start v interprets holds.
    let b = sum_value v c.args.b.now in
    let d = sum_value v c.in_ok-divisor.divisor in
    modulus_answers v _ _ _ _ _ _ (c.in_ok-expect_not.ensures.expects v holds)
    (λ apart on.
    let means = c.ranged.ensures.extends.back start v interprets in
    let sized = c.in_ok-divisor.ensures.tells start v (c.in_ok-remainder.ensures.extends.back start v means) on in
    let same = size_same b d sized.1 in
    let it = c.in_ok-remainder.ensures.divides start v means sized.0.holds (apart_same b d same apart) in
    answers_at v _ _ _ in_range _ _ _ (stays_then v _ _ _ sized.0 it.0) (it.1.remainder ∙ rem_same _ b d same) (claim start v interprets)))
