use Rattle.f77_tree.proofs.Common.{map, ◌≡◌, drop, ◌++◌, NodeOf, node_of, statement_of, jumps_of}
use Rattle.f77_tree.proofs.node_list.add_jumps.Given as goal

abbrev pub invariant-loop-k : goal.invariant-loop-k
invariant-loop-k l = map node_of l.list.items ++ map NodeOf.Labelled (drop l.k (jumps_of (statement_of l.stmt)))
    ≡ map node_of l.initial.list.items ++ map NodeOf.Labelled (jumps_of (statement_of l.stmt))
