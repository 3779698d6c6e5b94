use Rattle.equivalents_app.proofs.Tests.{none_kills}
use Rattle.equivalents_app.proofs.law.no_test_kills.Goals as goal

pub returns : goal.returns
returns c = none_kills c.one_outcome.ensures.answer
