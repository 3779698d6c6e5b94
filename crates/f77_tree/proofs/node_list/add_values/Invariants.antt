use Rattle.f77_tree.proofs.Common.{map, ◌≡◌, drop, ◌++◌, NodeOf, node_of}
use Rattle.f77_tree.proofs.node_list.add_values.Given as goal

abbrev pub invariant-loop-value : goal.invariant-loop-value
invariant-loop-value l = map node_of l.list.items ++ map NodeOf.Initial (drop l.value-index l.values) ≡ map node_of l.initial.list.items ++ map NodeOf.Initial l.values
