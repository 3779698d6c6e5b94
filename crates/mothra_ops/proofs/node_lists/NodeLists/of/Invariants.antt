use Rattle.mothra_ops.proofs.Common.{map, take, line_of, AreNodesOf}
use Rattle.mothra_ops.proofs.node_lists.NodeLists.of.Given as goal

abbrev pub invariant-loop-line : goal.invariant-loop-line
invariant-loop-line l = AreNodesOf (map line_of (take l.line-index l.lines)) l.lists.items
