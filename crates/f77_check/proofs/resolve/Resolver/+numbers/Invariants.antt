use Rattle.f77_check.proofs.Common.{map, drop, IsChosen, by_tables, tree_of, trees}
use Rattle.f77_check.proofs.resolve.Resolver.+numbers.Given as goal

-- the choice among the items from here on
abbrev pub invariant-chosen-loop-i : goal.invariant-chosen-loop-i
invariant-chosen-loop-i l = by_tables l.self IsChosen l.operation (trees (map tree_of (drop l.i l.items))) l.chosen
