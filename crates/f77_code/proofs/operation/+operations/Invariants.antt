use Rattle.f77_code.proofs.Common.{◌+◌, ◌*◌}
use Rattle.f77_code.proofs.Depth.{depth}
use Rattle.f77_code.proofs.operation.+operations.Given as goal

abbrev pub decreases-perform : goal.decreases-perform
decreases-perform l = 3 * depth l.operation.now

abbrev pub decreases-when : goal.decreases-when
decreases-when l = 3 * depth l.inner.now + 2

abbrev pub decreases-perform_inner : goal.decreases-perform_inner
decreases-perform_inner l = 3 * depth l.operation.now + 1
