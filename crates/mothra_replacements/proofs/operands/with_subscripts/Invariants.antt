use Rattle.mothra_replacements.proofs.Common.{◌≡◌, map, filter, take, Tree, tree_of, reference_fields, trees, is_comparable, pool_fields}
use Rattle.mothra_replacements.proofs.operands.with_subscripts.Given as goal

abbrev pub invariant-loop-name : goal.invariant-loop-name
invariant-loop-name l =
    map tree_of l.list.items
    ≡ map (λ other. Tree.Reference other (trees (reference_fields l.own).1))
    (filter (is_comparable (pool_fields l.pools) (reference_fields l.own).0) (take l.name-index l.pools.arrays.items))
