-- The items of short lists of expressions, and what holds of each item.
use Rattle.f77_check.proofs.Common.{◌≡◌, ap, ◌∙◌, sym, map, subst, List, refl, ℕ, [], arith, length, ◌∷◌, true, ◌<◌, get_or, ◌≤◌, false, and_parts, All-cons}
use Rattle.f77_check.proofs.Common.{All-get_or, All-nil, All, IsReadyTree, items_kept, tree_kept, ServesNames, Resolver, tree_count, all_fit, fits_bounds}
use Rattle.f77_check.proofs.Common.{takes, are_integer, is_of_kind, array_bounds, kind_at, Tree, Trees, tree_of, trees, Expr, Integer}
use Rattle.f77_tree.specs.declared.intrinsic.Intrinsic.{Intrinsic}

-- a list of one item, and of two
pub only_one : {X : Type 0} (d : X) (xs : List X) → 1 ≤ length xs → length xs < 2 → xs ≡ get_or xs 0 d ∷ []
only_one d [] some few = absurd (omega (arith, some))
only_one d (x ∷ []) some few = refl
only_one d (x ∷ (y ∷ ys)) some few = absurd (omega (arith, few))

pub only_two : {X : Type 0} (d e : X) (xs : List X) → 2 ≤ length xs → length xs < 3 → xs ≡ get_or xs 0 d ∷ (get_or xs 1 e ∷ [])
only_two d e [] some few = absurd (omega (arith, some))
only_two d e (x ∷ []) some few = absurd (omega (arith, some))
only_two d e (x ∷ (y ∷ [])) some few = refl
only_two d e (x ∷ (y ∷ (z ∷ zs))) some few = absurd (omega (arith, few))

pub one_item : (xs : List Expr) (x : Expr) → 1 ≤ length xs → length xs < 2 → x ≡ get_or xs 0 x → xs ≡ x ∷ []
one_item xs x some few e = only_one x xs some few ∙ ap (λ z. z ∷ []) (sym e)

pub two_items : (xs : List Expr) (x y : Expr) → 2 ≤ length xs → length xs < 3 → x ≡ get_or xs 0 x → y ≡ get_or xs 1 y → xs ≡ x ∷ (y ∷ [])
two_items xs x y some few e f = only_two x y xs some few ∙ (λ i. sym e i ∷ (sym f i ∷ []))

-- the arguments of a call that can be looked up
module _ (r : Resolver) (names : ServesNames r) where
  each_ready : (xs : List Expr) → are_integer (kind_at r.tables.names) (trees (map tree_of xs)) ≡ true
      → all_fit (array_bounds r.tables.names) (trees (map tree_of xs)) ≡ true → items_kept r.tables.names (trees (map tree_of xs)) ≡ true
      → All (λ x. IsReadyTree r Integer (tree_of x)) xs
  each_ready [] kinds bounds kept = All-nil (λ x. IsReadyTree r Integer (tree_of x))
  each_ready (x ∷ xs) kinds bounds kept =
      let kind = and_parts (is_of_kind (kind_at r.tables.names) Integer (tree_of x)) (are_integer (kind_at r.tables.names) (trees (map tree_of xs))) kinds in
      let fit = and_parts (fits_bounds (array_bounds r.tables.names) (tree_of x)) (all_fit (array_bounds r.tables.names) (trees (map tree_of xs))) bounds in
      let have = and_parts (tree_kept r.tables.names (tree_of x)) (items_kept r.tables.names (trees (map tree_of xs))) kept in
      All-cons (λ x. IsReadyTree r Integer (tree_of x)) x xs (record { names = names; kinds = kind.0; bounds = fit.0; kept = have.0 })
      (each_ready xs kind.1 fit.1 have.1)

pub some_items : (r : Resolver) (f : Intrinsic) (xs : List Expr) → takes f 0 ≡ false → IsReadyTree r Integer (Tree.Call f (trees (map tree_of xs)))
    → 0 < length xs
some_items r f [] none h =
    let some = and_parts (takes f 0) (all_fit (array_bounds r.tables.names) Trees.None) h.bounds in
    absurd (cc (none, some.0))
some_items r f (x ∷ xs) none h = omega arith

pub items_ready : (r : Resolver) (f : Intrinsic) (xs : List Expr) → IsReadyTree r Integer (Tree.Call f (trees (map tree_of xs)))
    → All (λ x. IsReadyTree r Integer (tree_of x)) xs
items_ready r f xs h =
    each_ready r h.names xs h.kinds (and_parts (takes f (tree_count (trees (map tree_of xs)))) (all_fit (array_bounds r.tables.names) (trees (map tree_of xs))) h.bounds).1
    h.kept

pub item_ready : (r : Resolver) (xs : List Expr) (i : ℕ) (x : Expr) → i < length xs → x ≡ get_or xs i x
    → All (λ x. IsReadyTree r Integer (tree_of x)) xs → IsReadyTree r Integer (tree_of x)
item_ready r xs i x below is all =
    let ready : Expr → Type 0 = λ e. IsReadyTree r Integer (tree_of e) in
    subst ready (sym is) (All-get_or ready xs i x below all)
