use Rattle.f77_syntax.proofs.Common.{operator_at}
use Rattle.f77_syntax.proofs.Operators.{next_shorter}
use Rattle.f77_syntax.proofs.scan.next_operator.Goals as goal

pub returns-clause-shorter : goal.returns-clause-shorter
unfolding operator_at
returns-clause-shorter c = next_shorter c.args.text.now c.first_operator.result c.first_operator.ensures
