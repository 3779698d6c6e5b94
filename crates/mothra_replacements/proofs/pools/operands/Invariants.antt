use Rattle.mothra_replacements.proofs.Common.{◌≡◌, map, take, filter_map, same_tree, node_of, tree_of, each_once, operand_at}
use Rattle.mothra_replacements.proofs.pools.operands.Given as goal

abbrev pub invariant-loop-node : goal.invariant-loop-node
invariant-loop-node l =
    map tree_of l.list.items ≡ each_once same_tree (filter_map (operand_at l.sort) (map node_of (take l.node-index l.nodes)))
