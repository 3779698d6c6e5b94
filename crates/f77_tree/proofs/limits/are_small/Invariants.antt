use Rattle.f77_tree.proofs.Common.{map, ◌≡◌, drop, list_all, node_of, is_small_node}
use Rattle.f77_tree.proofs.limits.are_small.Given as goal

-- the answer rests on the other nodes
abbrev pub invariant-loop-node : goal.invariant-loop-node
invariant-loop-node l = list_all is_small_node (map node_of l.nodes) ≡ list_all is_small_node (map node_of (drop l.node-index l.nodes))
