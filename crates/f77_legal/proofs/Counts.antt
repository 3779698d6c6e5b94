-- How many items a list of trees has.
use Rattle.f77_legal.proofs.Common.{◌≡◌, ap, map, List, refl, [], ◌∷◌, length, suc, tree_count, tree_of, trees, Expr}

pub count_trees : (items : List Expr) → tree_count (trees (map tree_of items)) ≡ length items
count_trees [] = refl
count_trees (x ∷ xs) = ap suc (count_trees xs)
