use Rattle.f77_code.proofs.Common.{ap, length}
use Rattle.f77_code.proofs.Replaced.{begins_own}
use Rattle.f77_code.proofs.replacing.ChangedCode.of.Goals as goal

pub returns-clause-is : goal.returns-clause-is
returns-clause-is c = begins_own c.args.code (length c.values-own.result.now) (ap length c.values-own.ensures)
