use Rattle.f77_tree.proofs.Common.{map, ◌≡◌, drop, ◌++◌, NodeOf, node_of}
use Rattle.f77_tree.proofs.node_list.add_names.Given as goal

abbrev pub invariant-loop-name : goal.invariant-loop-name
invariant-loop-name l = map node_of l.list.items ++ map NodeOf.Named (drop l.name-index l.names) ≡ map node_of l.initial.list.items ++ map NodeOf.Named l.names
