use Rattle.mothra_replacements.proofs.Common.{◌≡◌, map, filter_map, node_of, replacement_of, tree_of, placed}
use Rattle.mothra_replacements.proofs.replacing.all_placed.Given as goal

abbrev pub invariant-loop-expr : goal.invariant-loop-expr
invariant-loop-expr l = map replacement_of l.made.items ≡ filter_map (placed (node_of l.node)) (map tree_of l.yielded)
