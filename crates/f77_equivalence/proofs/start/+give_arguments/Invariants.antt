use Rattle.f77_equivalence.proofs.Common.{length}
use Rattle.f77_equivalence.proofs.start.+give_arguments.Given as goal

abbrev pub decreases-give_arguments : goal.decreases-give_arguments
decreases-give_arguments l = length l.dummies.now
