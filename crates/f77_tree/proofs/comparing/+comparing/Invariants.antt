use Rattle.f77_tree.proofs.Common.{map, ◌≡◌, tree_of, trees, same_trees}
use Rattle.f77_tree.proofs.Comparisons.{same_rest}
use Rattle.f77_tree.proofs.comparing.+comparing.Given as goal

abbrev pub invariant-same_all-loop-i : goal.invariant-same_all-loop-i
invariant-same_all-loop-i l = same_trees (trees (map tree_of l.items)) (trees (map tree_of l.others)) ≡ same_rest l.items l.others l.i
