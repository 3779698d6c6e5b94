-- Comparing lists of expressions item by item, and lists of parts by what they stand for.
use Rattle.f77_tree.proofs.Common.{map, refl, ◌≡◌, drop, ℕ, sym, ◌∙◌, ap, arith, List, [], ◌∷◌, Bool, true, false, length, ◌<◌, ◌+◌, ◌≢◌, suc, ◌&&◌, ◌≤◌}
use Rattle.f77_tree.proofs.Common.{get_or, add-one, drop-cons, drop_all, tree_of, data_group_of, decl_of, trees, same_trees, same_decl, same_group, same_tree}
use Rattle.f77_tree.proofs.Common.{DataGroup, Decl, Expr}
use Rattle.std.specs.Cmp.Lexicographic.{pointwise}
use Rattle.std.specs.Ordering.{on}
use Rattle.f77_tree.proofs.Views.{subroutine_view, declare_view, dimension_view, preset_view, assign_view, goto_view, computed_view, arithmetic_view}
use Rattle.f77_tree.proofs.Views.{logical_view, inner_view, block_view, else_if_view, else_view, end_if_view, loop_view, continue_view, return_view, stop_view}
use Rattle.f77_tree.proofs.Views.{trap_view, end_view}

abbrev pub same_lists : List Expr → List Expr → Bool
same_lists xs ys = same_trees (trees (map tree_of xs)) (trees (map tree_of ys))

-- the rests of two lists, behind i items, are the same
abbrev pub same_rest : List Expr → List Expr → ℕ → Bool
same_rest xs ys i = same_lists (drop i xs) (drop i ys)

and_no : (b : Bool) → (b && false) ≡ false
and_no true = refl
and_no false = refl

pub other_lengths : (xs ys : List Expr) → length xs ≢ length ys → false ≡ same_lists xs ys
other_lengths [] [] h = absurd (h refl)
other_lengths [] (y ∷ ys) h = refl
other_lengths (x ∷ xs) [] h = refl
other_lengths (x ∷ xs) (y ∷ ys) h =
    let rest : false ≡ same_lists xs ys = other_lengths xs ys (λ e. h (ap suc e)) in
    sym (and_no (same_tree (tree_of x) (tree_of y))) ∙ ap (λ b. same_tree (tree_of x) (tree_of y) && b) rest

rest_at : (xs ys : List Expr) (i : ℕ) (x y : Expr) → i < length xs → i < length ys
    → same_rest xs ys i ≡ (same_tree (tree_of (get_or xs i x)) (tree_of (get_or ys i y)) && same_rest xs ys (i + 1))
rest_at xs ys i x y h k = rw (drop-cons xs i x h, drop-cons ys i y k, add-one) refl

rest_is : (xs ys : List Expr) (i : ℕ) (x y : Expr) → i < length xs → length xs ≡ length ys → x ≡ get_or xs i x → y ≡ get_or ys i y
    → same_rest xs ys i ≡ (same_tree (tree_of x) (tree_of y) && same_rest xs ys (i + 1))
rest_is xs ys i x y h same at_x at_y =
    rest_at xs ys i x y h (omega arith) ∙ (λ j. same_tree (tree_of (sym at_x j)) (tree_of (sym at_y j)) && same_rest xs ys (i + 1))

-- the items at i are the same: it is left to the others
pub rest_on : (xs ys : List Expr) (i : ℕ) (x y : Expr) → i < length xs → length xs ≡ length ys → x ≡ get_or xs i x → y ≡ get_or ys i y
    → true ≡ same_tree (tree_of x) (tree_of y) → same_rest xs ys i ≡ same_rest xs ys (i + 1)
rest_on xs ys i x y h same at_x at_y e = rest_is xs ys i x y h same at_x at_y ∙ ap (λ b. b && same_rest xs ys (i + 1)) (sym e)

pub rest_off : (xs ys : List Expr) (i : ℕ) (x y : Expr) → i < length xs → length xs ≡ length ys → x ≡ get_or xs i x → y ≡ get_or ys i y
    → false ≡ same_tree (tree_of x) (tree_of y) → same_rest xs ys i ≡ false
rest_off xs ys i x y h same at_x at_y e = rest_is xs ys i x y h same at_x at_y ∙ ap (λ b. b && same_rest xs ys (i + 1)) (sym e)

pub rest_done : (xs ys : List Expr) (i : ℕ) → length xs ≤ i → length xs ≡ length ys → same_rest xs ys i ≡ true
rest_done xs ys i h same = rw (drop_all i xs h, drop_all i ys (omega arith)) refl

pub by_views : {X A : Type 0} (view : X → A) (test : A → A → Bool) (xs ys : List X) → pointwise (on view test) xs ys ≡ pointwise test (map view xs) (map view ys)
by_views view test [] [] = refl
by_views view test [] (y ∷ ys) = refl
by_views view test (x ∷ xs) [] = refl
by_views view test (x ∷ xs) (y ∷ ys) = ap (λ b. test (view x) (view y) && b) (by_views view test xs ys)

pub decls_by_view : (xs ys : List Decl) → pointwise (on decl_of same_decl) xs ys ≡ pointwise same_decl (map decl_of xs) (map decl_of ys)
decls_by_view = by_views decl_of same_decl

pub groups_by_view : (xs ys : List DataGroup) → pointwise (on data_group_of same_group) xs ys ≡ pointwise same_group (map data_group_of xs) (map data_group_of ys)
groups_by_view = by_views data_group_of same_group

-- what each form of statement stands for, and lists of what it holds
pub ruleset form_by_form = (
  subroutine_view,
  declare_view,
  dimension_view,
  preset_view,
  assign_view,
  goto_view,
  computed_view,
  arithmetic_view,
  logical_view,
  inner_view,
  block_view,
  else_if_view,
  else_view,
  end_if_view,
  loop_view,
  continue_view,
  return_view,
  stop_view,
  trap_view,
  end_view,
  decls_by_view,
  groups_by_view,
)
