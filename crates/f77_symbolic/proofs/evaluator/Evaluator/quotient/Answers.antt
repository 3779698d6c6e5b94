use Rattle.f77_symbolic.proofs.Common.{in_range, ok_then}
use Rattle.f77_symbolic.proofs.Answering.{answers_at}
use Rattle.f77_symbolic.proofs.Expecting.{quotient_answers}
use Rattle.f77_symbolic.proofs.evaluator.Evaluator.quotient.Goals as goal

pub returns-clause-calculates : goal.returns-clause-calculates
returns-clause-calculates c =
    ok_then c.ranged.result c.ranged.ensures.calculates
    (λ value claim start v interprets holds.
    quotient_answers v _ _ _ _ _ _ (c.in_ok-expect_not.ensures.expects v holds)
    (λ apart on.
    let it = c.in_ok-quotient.ensures.divides start v (c.ranged.ensures.extends.back start v interprets) on apart in
    answers_at v _ _ _ in_range _ _ _ it.0 it.1.quotient (claim start v interprets)))
