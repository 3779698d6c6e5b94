use Rattle.f77_legal.proofs.Common.{map, drop, array_bounds, kind_at, items_pass, all_fit, are_integer, has_name, Adds, tree_of, trees}
use Rattle.f77_legal.specs.declared.broken.Flaws.{Flaws}
use Rattle.f77_legal.proofs.broken.Flaws.+flaws.Given as goal

-- what the other items add to these flaws, all add to the first ones
abbrev pub invariant-check_items-loop-item : goal.invariant-check_items-loop-item
invariant-check_items-loop-item l =
    (new : Flaws)
    → Adds l.self new (items_pass (has_name l.names) (trees (map tree_of (drop l.item-index l.items))))
    (are_integer (kind_at l.names) (trees (map tree_of (drop l.item-index l.items))))
    (all_fit (array_bounds l.names) (trees (map tree_of (drop l.item-index l.items))))
    → Adds l.fn.self new (items_pass (has_name l.names) (trees (map tree_of l.items))) (are_integer (kind_at l.names) (trees (map tree_of l.items)))
    (all_fit (array_bounds l.names) (trees (map tree_of l.items)))
