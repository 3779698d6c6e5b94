use Rattle.f77_tree.proofs.Common.{map, drop, take, tree_sites, tree_of, replacement_of}
use Rattle.f77_tree.proofs.Passes.{Passing}
use Rattle.f77_tree.proofs.swapping_expression.+swap.Given as goal

abbrev pub invariant-swap_items-loop-item : goal.invariant-swap_items-loop-item
invariant-swap_items-loop-item l = record {
  unvisited : goal.unvisited-swap_items-loop-item l;
  passing : Passing tree_sites (map tree_of (take l.item-index l.items)) (map tree_of (drop l.item-index l.items)) (map tree_of l.fn.items)
      l.fn.number l.number (replacement_of l.fn.node) (replacement_of l.node);
}
