use Rattle.f77_syntax.proofs.Common.{length}
use Rattle.f77_syntax.proofs.DataGives.{Grouping}
use Rattle.f77_syntax.proofs.data.groups.Given as goal

abbrev pub invariant-loop-groups : goal.invariant-loop-groups
invariant-loop-groups l = Grouping l.groups.items l.rest l.text

abbrev pub decreases-loop-groups : goal.decreases-loop-groups
decreases-loop-groups l = length l.rest
