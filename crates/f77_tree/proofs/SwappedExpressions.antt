-- Each form of expression with a part swapped for another.
use Rattle.f77_tree.proofs.Common.{map, refl, ◌≡◌, ℕ, sym, ◌∙◌, ap, List, Bool, true, false, length, Vec, ◌≢◌, subst, ◌-◌, Box, true≢false, IsTrue, ◌↔◌}
use Rattle.f77_tree.proofs.Common.{with_items_is, Global, NodeOf, tree_sites, tree_of, trees, Tree, Site, Trees, site_within, item_sites, target_sites}
use Rattle.f77_tree.proofs.Common.{expr_step, ref_step, part_or, parts_behind, target_or, Sought, assigned_reference, Expr, rolls-Call, rolls-ZeroPush}
use Rattle.std.specs.Vec.{with_items}
use Rattle.f77_tree.specs.declared.intrinsic.Intrinsic.{Intrinsic}
use Rattle.f77_tree.specs.declared.operator.Operator.{Operator}
use Rattle.f77_tree.specs.declared.operator.Sign.{Sign}
use Rattle.f77_tree.specs.declared.tree.Ref.{Ref}
use Rattle.f77_tree.specs.declared.tree.Expr.TheOpen.{Expr-F}
use Rattle.f77_tree.specs.declared.tree.Expr.TheFolds.{fold-roll-Expr}
use Rattle.f77_tree.specs.declared.tree.Expr.TheViews as views
use Rattle.f77_tree.proofs.Views.{signed_view, not_view, binary_view, reference_view, ref_view}
use Rattle.f77_tree.proofs.Passes.{sought_one, sought_first, sought_second, sought_behind}

call_view : (f : Intrinsic) (arguments : Vec Expr Global) → tree_of (views.Call f arguments) ≡ Tree.Call f (trees (map tree_of arguments.items))
call_view f arguments = ap tree_of (sym (rolls-Call f arguments)) ∙ fold-roll-Expr Tree (List ℕ × List Tree) expr_step ref_step (Expr-F.Call f arguments)

push_view : (a : Box Expr Global) → tree_of (views.ZeroPush a) ≡ Tree.ZeroPush (tree_of a.value)
push_view a = ap tree_of (sym (rolls-ZeroPush a)) ∙ fold-roll-Expr Tree (List ℕ × List Tree) expr_step ref_step (Expr-F.ZeroPush a)

target_view : (r : Ref) → assigned_reference r ≡ (r.name, trees (map tree_of r.subscripts.items))
target_view r = ap (λ (p : List ℕ × List Tree). (p.0, trees p.1)) (ref_view r)

pub not_next : (b : Bool) (k : ℕ) → b ≡ false → IsTrue b ↔ k ≡ 1 → k ≢ 1
not_next b k failed is one = true≢false (sym (is.1 one) ∙ failed)

pub seen_as : {X : Type 0} (of : X → List (Site X)) (answer : Bool) (k j : ℕ) (a b : NodeOf) (x y x' y' : X) → x ≡ x' → y ≡ y' → Sought of answer k j a b x' y'
    → Sought of answer k j a b x y
seen_as {X = X} of answer k j a b x y x' y' was is s =
    subst (λ (z : X). Sought of answer k j a b z y) (sym was) (subst (λ (z : X). Sought of answer k j a b x' z) (sym is) s)

-- the node of the expression was not the one that is looked for
module _ (next : Bool) (k i : ℕ) (no : next ≡ false) (decided : IsTrue next ↔ k ≡ 1) (falls : i ≡ k - 1) (answer : Bool) (j : ℕ) (a b : NodeOf) where
  abbrev Part : Expr → Expr → Type 0
  Part e e' = Sought tree_sites answer i j a b (tree_of e) (tree_of e')

  abbrev Whole : Expr → Expr → Type 0
  Whole e e' = Sought tree_sites answer k j a b (tree_of e) (tree_of e')

  behind : (e e' : Expr) (t t' : Tree) → tree_of e ≡ t → tree_of e' ≡ t' → Sought parts_behind answer i j a b t t' → Whole e e'
  behind e e' t t' was is s =
      seen_as tree_sites answer k j a b (tree_of e) (tree_of e') t t' was is
      (sought_behind (λ u. (NodeOf.Part u, part_or u)) parts_behind tree_sites (λ u. refl) answer k i j a b t t' (not_next next k no decided) falls s)

  pub in_signed : (sign : Sign) (x y : Box Expr Global) → Part x.value y.value → Whole (views.Signed sign x) (views.Signed sign y)
  in_signed sign x y s =
      behind (views.Signed sign x) (views.Signed sign y) _ _ (signed_view sign x) (signed_view sign y)
      (sought_one tree_sites parts_behind (Tree.Signed sign) (λ u. refl) answer i j a b (tree_of x.value) (tree_of y.value) s)

  pub in_not : (x y : Box Expr Global) → Part x.value y.value → Whole (views.Not x) (views.Not y)
  in_not x y s =
      behind (views.Not x) (views.Not y) _ _ (not_view x) (not_view y)
      (sought_one tree_sites parts_behind Tree.Not (λ u. refl) answer i j a b (tree_of x.value) (tree_of y.value) s)

  pub in_push : (x y : Box Expr Global) → Part x.value y.value → Whole (views.ZeroPush x) (views.ZeroPush y)
  in_push x y s =
      behind (views.ZeroPush x) (views.ZeroPush y) _ _ (push_view x) (push_view y)
      (sought_one tree_sites parts_behind Tree.ZeroPush (λ u. refl) answer i j a b (tree_of x.value) (tree_of y.value) s)

  abbrev Items : List Expr → List Expr → Type 0
  Items old new = Sought item_sites answer i j a b (trees (map tree_of old)) (trees (map tree_of new))

  pub in_call : (f : Intrinsic) (x : Vec Expr Global) (old new : List Expr) → old ≡ x.items → length new ≡ x.len → Items old new
      → Whole (views.Call f x) (views.Call f (with_items x new))
  in_call f x old new was long s =
      let items : Trees = trees (map tree_of old) in
      let items' : Trees = trees (map tree_of new) in
      behind (views.Call f x) (views.Call f (with_items x new)) (Tree.Call f items) (Tree.Call f items')
      (call_view f x ∙ ap (λ l. Tree.Call f (trees (map tree_of l))) (sym was))
      (call_view f (with_items x new) ∙ ap (λ l. Tree.Call f (trees (map tree_of l))) (with_items_is x new long))
      (sought_one item_sites parts_behind (Tree.Call f) (λ u. refl) answer i j a b items items' s)

  pub in_reference : (x : Ref) (old new : List Expr) → old ≡ x.subscripts.items → length new ≡ x.subscripts.len → Items old new
      → Whole (views.Reference x) (views.Reference (record { name = x.name; subscripts = with_items x.subscripts new }))
  in_reference x old new was long s =
      let y : Ref = record { name = x.name; subscripts = with_items x.subscripts new } in
      let items : Trees = trees (map tree_of old) in
      let items' : Trees = trees (map tree_of new) in
      behind (views.Reference x) (views.Reference y) (Tree.Reference x.name items) (Tree.Reference x.name items')
      (reference_view x ∙ ap (λ l. Tree.Reference x.name (trees (map tree_of l))) (sym was))
      (reference_view y ∙ ap (λ l. Tree.Reference x.name (trees (map tree_of l))) (with_items_is x.subscripts new long))
      (sought_one item_sites parts_behind (Tree.Reference x.name) (λ u. refl) answer i j a b items items' s)

  -- an operand, the left one swapped or passed by
  pub in_left : (op : Operator) (x y z : Box Expr Global) (m : ℕ) → answer ≡ true → Sought tree_sites answer i m a b (tree_of x.value) (tree_of y.value)
      → Whole (views.Binary op x z) (views.Binary op y z)
  in_left op x y z m found s =
      behind (views.Binary op x z) (views.Binary op y z) _ _ (binary_view op x z) (binary_view op y z)
      (sought_first tree_sites tree_sites parts_behind (Tree.Binary op) (λ u v. refl) answer answer i m j a b (tree_of x.value) (tree_of y.value) (tree_of z.value) found found s)

  pub in_right : (op : Operator) (x y z w : Box Expr Global) (done : Bool) (m : ℕ) (c : NodeOf) → done ≡ false
      → Sought tree_sites done i m a c (tree_of x.value) (tree_of y.value) → Sought tree_sites answer m j c b (tree_of z.value) (tree_of w.value)
      → Whole (views.Binary op x z) (views.Binary op y w)
  in_right op x y z w done m c past s t =
      behind (views.Binary op x z) (views.Binary op y w) _ _ (binary_view op x z) (binary_view op y w)
      (sought_second tree_sites tree_sites parts_behind (Tree.Binary op) (λ u v. refl) done answer i m j a c b (tree_of x.value) (tree_of y.value) (tree_of z.value)
      (tree_of w.value) past s t)

  -- the reference that an assignment assigns to, with swapped subscripts
  pub in_target : (x : Ref) (old new : List Expr) → old ≡ x.subscripts.items → length new ≡ x.subscripts.len → Items old new
      → Sought target_sites answer k j a b (assigned_reference x) (assigned_reference (record { name = x.name; subscripts = with_items x.subscripts new }))
  in_target x old new was long s =
      let y : Ref = record { name = x.name; subscripts = with_items x.subscripts new } in
      let items : Trees = trees (map tree_of old) in
      let items' : Trees = trees (map tree_of new) in
      let subscripts : List ℕ × Trees → List (Site (List ℕ × Trees)) = λ place. map (site_within (λ ts. (place.0, ts))) (item_sites place.1) in
      seen_as target_sites answer k j a b (assigned_reference x) (assigned_reference y) (x.name, items) (x.name, items')
      (target_view x ∙ ap (λ l. (x.name, trees (map tree_of l))) (sym was))
      (target_view y ∙ ap (λ l. (x.name, trees (map tree_of l))) (with_items_is x.subscripts new long))
      (sought_behind (λ place. (NodeOf.Target place.0 place.1, target_or place)) subscripts target_sites (λ u. refl) answer k i j a b (x.name, items) (x.name, items')
      (not_next next k no decided) falls
      (sought_one item_sites subscripts (λ ts. (x.name, ts)) (λ u. refl) answer i j a b items items' s))
