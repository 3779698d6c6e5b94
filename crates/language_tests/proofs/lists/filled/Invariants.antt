use Rattle.std.proofs.Common.{◌≡◌}
use Rattle.language_tests.proofs.lists.filled.Given as goal

abbrev pub invariant-loop-rank : goal.invariant-loop-rank
invariant-loop-rank g l = l.listing.every ≡ l.every
