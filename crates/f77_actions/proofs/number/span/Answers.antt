use Rattle.f77_actions.proofs.Common.{arith, ints}
use Rattle.f77_actions.proofs.number.span.Goals as goal

pub returns-clause-value : goal.returns-clause-value
returns-clause-value c = omega (arith, ints)

pub returns-clause-small : goal.returns-clause-small
returns-clause-small c = omega (arith, ints)
