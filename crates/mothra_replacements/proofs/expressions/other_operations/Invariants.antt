use Rattle.mothra_replacements.proofs.Common.{◌≡◌, map, filter, not, take, same_operator, Tree, tree_of}
use Rattle.mothra_replacements.proofs.expressions.other_operations.Given as goal

abbrev pub invariant-loop-other : goal.invariant-loop-other
invariant-loop-other l =
    map tree_of l.list.items
    ≡ map (λ o. Tree.Binary o (tree_of l.left) (tree_of l.right)) (filter (λ o. not (same_operator o l.operator)) (take l.other-index l.group))
