use Rattle.f77_tree.proofs.Common.{map, ◌≡◌, take, tree_of}
use Rattle.f77_tree.proofs.copying.+copying.Given as goal

abbrev pub invariant-copy_all-loop-item : goal.invariant-copy_all-loop-item
invariant-copy_all-loop-item l = map tree_of l.copies.items ≡ map tree_of (take l.item-index l.item-items)
