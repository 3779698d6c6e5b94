use Rattle.mothra_replacements.proofs.Common.{◌≡◌, map, filter, not, take, ◌&&◌, kind_at, same_tree, same_kind, tree_of, kind_of_expression}
use Rattle.mothra_replacements.proofs.operands.others.Given as goal

abbrev pub invariant-loop-operand : goal.invariant-loop-operand
invariant-loop-operand l =
    map tree_of l.list.items
    ≡ map tree_of (filter (λ x. same_kind (kind_of_expression (kind_at l.names) (tree_of x)) (kind_of_expression (kind_at l.names) (tree_of l.own))
    && not (same_tree (tree_of x) (tree_of l.own)))
    (take l.operand-index l.pool))
