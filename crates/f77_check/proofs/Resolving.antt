-- Expressions with their names looked up, from their operands.
use Rattle.f77_check.proofs.Common.{◌≡◌, ap, ◌∙◌, sym, map, List, refl, ℕ, length, Some, ◌<◌, get_or, ◌≤◌, Box, arithmetic_of, Arithmetic, first_slot, IsNumber}
use Rattle.f77_check.proofs.Common.{IsElement, HoldsNumber, Symbol, binary_view, signed_view, Tree, tree_of, trees, expr_step, ref_step, Operator, Expr}
use Rattle.std.specs.declared.alloc.Global.{Global}
use Rattle.f77_tree.specs.declared.intrinsic.Intrinsic.{Intrinsic}
use Rattle.f77_tree.specs.declared.intrinsic.Intrinsic.TheVariants.{Mod, Iabs}
use Rattle.f77_tree.specs.declared.operator.Sign.{Sign}
use Rattle.f77_tree.specs.declared.operator.Sign.TheVariants.{Minus}
use Rattle.f77_tree.specs.declared.tree.Expr.TheVariants.{rolls-ZeroPush}
use Rattle.f77_tree.specs.declared.tree.Expr.TheOpen.{Expr-F}
use Rattle.f77_tree.specs.declared.tree.Expr.TheFolds.{fold-roll-Expr}
use Rattle.f77_actions.specs.declared.expression.Arithmetic.TheVariants.{Modulus}
use Rattle.f77_actions.specs.declared.expression.Number.{Number}
use Rattle.f77_tree.specs.declared.tree.Expr.TheViews as views
use Rattle.f77_actions.specs.declared.expression.Element.TheViews as resolved
use Rattle.f77_check.proofs.Items.{only_one, only_two, one_item, two_items}

push_view : (a : Box Expr Global) → tree_of (views.ZeroPush a) ≡ Tree.ZeroPush (tree_of a.value)
push_view a = ap tree_of (sym (rolls-ZeroPush a)) ∙ fold-roll-Expr Tree (List ℕ × List Tree) expr_step ref_step (Expr-F.ZeroPush a)

module _ (bounds : Symbol → List ℕ) (names : List Symbol) where
  -- an element of an array, from its subscripts
  pub vector_element : (name : Symbol) (sizes : List ℕ) (first : ℕ) (xs : List Expr) (x : Expr) (p : Box Number Global) → sizes ≡ bounds name
      → 1 ≤ length sizes → length sizes < 2 → 1 ≤ length xs → length xs < 2 → x ≡ get_or xs 0 x → first_slot bounds names name ≡ Some first
      → HoldsNumber bounds names (tree_of x) p → IsElement bounds names name (trees (map tree_of xs)) (resolved.Vector first (get_or sizes 0 0) p)
  unfolding HoldsNumber
  vector_element name sizes first xs x p sizes_are some_sizes few_sizes some few is slot h =
      rw (one_item xs x some few is) (sym sizes_are ∙ only_one 0 sizes some_sizes few_sizes, slot, h)

  pub matrix_element : (name : Symbol) (sizes : List ℕ) (first : ℕ) (xs : List Expr) (x y : Expr) (p q : Box Number Global) → sizes ≡ bounds name
      → 2 ≤ length sizes → length sizes < 3 → 2 ≤ length xs → length xs < 3 → x ≡ get_or xs 0 x → y ≡ get_or xs 1 y
      → first_slot bounds names name ≡ Some first → HoldsNumber bounds names (tree_of x) p → HoldsNumber bounds names (tree_of y) q
      → IsElement bounds names name (trees (map tree_of xs)) (resolved.Matrix first (get_or sizes 0 0) (get_or sizes 1 0) p q)
  unfolding HoldsNumber
  matrix_element name sizes first xs x y p q sizes_are some_sizes few_sizes some few is also slot h k =
      rw (two_items xs x y some few is also) (sym sizes_are ∙ only_two 0 0 sizes some_sizes few_sizes, slot, h, k)

  -- calls of MOD and IABS
  pub modulus_number : (f : Intrinsic) (xs : List Expr) (x y : Expr) (p q : Box Number Global) → f ≡ Mod → 2 ≤ length xs → length xs < 3
      → x ≡ get_or xs 0 x → y ≡ get_or xs 1 y → HoldsNumber bounds names (tree_of x) p → HoldsNumber bounds names (tree_of y) q
      → IsNumber bounds names (Tree.Call f (trees (map tree_of xs))) (resolved.Binary Modulus p q)
  unfolding HoldsNumber
  modulus_number f xs x y p q is some few at also h k = rw (is, two_items xs x y some few at also) (refl, h, k)

  pub absolute_number : (f : Intrinsic) (xs : List Expr) (x : Expr) (p : Box Number Global) → f ≡ Iabs → 1 ≤ length xs → length xs < 2
      → x ≡ get_or xs 0 x → HoldsNumber bounds names (tree_of x) p → IsNumber bounds names (Tree.Call f (trees (map tree_of xs))) (resolved.Absolute p)
  unfolding HoldsNumber
  absolute_number f xs x p is some few at h = rw (is, one_item xs x some few at) h

  -- an operand behind a minus
  pub minus_number : (t : Tree) (sign : Sign) (p : Box Number Global) → sign ≡ Minus → HoldsNumber bounds names t p
      → IsNumber bounds names (Tree.Signed sign t) (resolved.Negated p)
  unfolding HoldsNumber
  minus_number t sign p minus h = rw minus h

  pub negated_number : (e x : Expr) (sign : Sign) (a : Box Expr Global) (p : Box Number Global) → e ≡ views.Signed sign a → sign ≡ Minus → x ≡ a.value
      → HoldsNumber bounds names (tree_of x) p → IsNumber bounds names (tree_of e) (resolved.Negated p)
  negated_number e x sign a p is minus held h = rw (is, signed_view sign a, ← held) (minus_number (tree_of x) sign p minus h)

  pub pushed_number : (e x : Expr) (a : Box Expr Global) (p : Box Number Global) → e ≡ views.ZeroPush a → x ≡ a.value
      → HoldsNumber bounds names (tree_of x) p → IsNumber bounds names (tree_of e) (resolved.ZeroPush p)
  unfolding HoldsNumber
  pushed_number e x a p is held h = rw (is, push_view a, ← held) h

  pub binary_number : (e x y : Expr) (op : Operator) (o : Arithmetic) (a b : Box Expr Global) (p q : Box Number Global)
      → e ≡ views.Binary op a b → x ≡ a.value → y ≡ b.value → arithmetic_of op ≡ Some o
      → HoldsNumber bounds names (tree_of x) p → HoldsNumber bounds names (tree_of y) q
      → IsNumber bounds names (tree_of e) (resolved.Binary o p q)
  unfolding HoldsNumber
  binary_number e x y op o a b p q is left right operation h k = rw (is, binary_view op a b, ← left, ← right) (operation, h, k)
