use Rattle.f77_code.proofs.Common.{◌+◌, ◌*◌}
use Rattle.f77_code.proofs.Depth.{action_depth}
use Rattle.f77_code.proofs.constants.Constants.+operations.Given as goal

abbrev pub decreases-logical : goal.decreases-logical
decreases-logical l = 2 * action_depth l.action.now + 1

abbrev pub decreases-operation : goal.decreases-operation
decreases-operation l = 2 * action_depth l.action.now
