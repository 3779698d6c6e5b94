use Rattle.f77_symbolic.proofs.Common.{sum_value}
use Rattle.f77_symbolic.proofs.Expecting.{ranged_answers}
use Rattle.f77_symbolic.proofs.evaluator.Evaluator.ranged.Goals as goal

pub returns-clause-calculates : goal.returns-clause-calculates
returns-clause-calculates c start v interprets holds =
    ranged_answers v c.args.self.now c.expect_within.new.self (sum_value v c.args.term) (c.in_ok-expect_within.ensures.expects v holds)
