use Rattle.f77_tree.proofs.Common.{map, ◌≡◌, drop, list_all, decl_of, has_bounds}
use Rattle.f77_tree.proofs.declaration.all_bounded.Given as goal

-- the answer rests on the other items
abbrev pub invariant-loop-item : goal.invariant-loop-item
invariant-loop-item l = list_all has_bounds (map decl_of l.items) ≡ list_all has_bounds (map decl_of (drop l.item-index l.items))
