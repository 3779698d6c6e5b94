use Rattle.f77_code.proofs.Common.{IsTestTerm, IsRelationOf}
use Rattle.std.proofs.lemmas.Result.{IfOk-weaker}
use Rattle.f77_code.proofs.Tests.{related_test}
use Rattle.f77_code.proofs.constants.Constants.+condition.Goals as goal

pub returns-in_ok-right-in-Related-clause-tests : goal.returns-in_ok-right-in-Related-clause-tests
returns-in_ok-right-in-Related-clause-tests t c =
    IfOk-weaker c.related.result (IsRelationOf c.in-Related.relation c.in_ok-left-in-Related.left c.in_ok-right-in-Related.right)
    (IsTestTerm c.number-in-Related.new.self c.args.condition.now)
    (λ made is. related_test c.number.new.self c.number-in-Related.new.self c.args.condition.now c.in-Related.relation c.in-Related.left c.in-Related.right
    c.in_ok-left-in-Related.left c.in_ok-right-in-Related.right made c.in-Related.is c.in_ok-right-in-Related.ensures.grown
    c.in_ok-left-in-Related.ensures.stands c.in_ok-right-in-Related.ensures.stands is)
    c.related.ensures
