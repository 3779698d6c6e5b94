-- A formed statement with a formed node in the place of another one: it is formed, and of the same form.
use Rattle.mothra_replacements.proofs.Common.{◌≡◌, map, List, ap, refl, ◌∙◌, [], ◌∷◌, None, true, ℕ, Bool, Some, Option, ◌++◌, get_or, ◌&&◌, All-append}
use Rattle.mothra_replacements.proofs.Common.{All-cons, All-map, All-nil, All-weaker, All, list_all, reference_formed, all_formed, formed, is_some_list}
use Rattle.mothra_replacements.proofs.Common.{statement_formed, value_formed, and_true, is_symbolic, NodeOf, Statement, form_of, Tree, Trees, GroupFields}
use Rattle.f77_tree.specs.declared.data.Value.{Value}
use Rattle.f77_tree.specs.Form.{acts}
use Rattle.f77_tree.specs.Grammar.{is_call}
use Rattle.f77_tree.specs.Joined.{has_items}
use Rattle.f77_tree.specs.code.Joined.{some_all}
use Rattle.f77_tree.specs.Sites.{Site, fixed, group_sites, item_sites, label_sites, list_sites, name_or, name_sites, part_or, part_then, parts_behind}
use Rattle.f77_tree.specs.Sites.{sites_behind, statement_or, statement_then, step_sites, target_or, target_sites, tree_sites, value_sites, site_within}
use Rattle.f77_program.specs.code.Data.{any_value, is_group}
use Rattle.f77_program.specs.Formed.{is_action}
use Rattle.f77_program.proofs.Forming.{a_reference}
use Rattle.mothra_replacements.proofs.FormedNodes.{each_mapped, each_of_some, node_formed, some_of_each}

-- what may stand in the place of a node: what some text spells, and of statements what may stand in a logical IF
abbrev pub is_fit : NodeOf → Bool
is_fit (NodeOf.Itself s) = is_action s && statement_formed is_symbolic s
is_fit node = node_formed node

pub always : {X : Type 0} (P : X → Type 0) (xs : List X) → ((x : X) → P x) → All P xs
always P xs each = λ k d low. each (get_or xs k d)

some_then : (t : Tree) (ts : Trees) → is_some_list (Trees.Then t ts) ≡ true
unfolding is_some_list
some_then t ts = refl

-- a list that is not empty stays one, so a name with it behind is a call where it was
call_kept : (name : List ℕ) (t : Tree) (ts items : Trees) → is_some_list items ≡ true → is_call name items ≡ is_call name (Trees.Then t ts)
unfolding is_some_list
call_kept name t ts Trees.None some = cc
call_kept name t ts (Trees.Then u us) some = refl

reference_kept : (name : List ℕ) (t : Tree) (ts items : Trees) → formed is_symbolic (Tree.Reference name (Trees.Then t ts)) ≡ true
    → (all_formed is_symbolic items ≡ true) × (is_some_list items ≡ true) → formed is_symbolic (Tree.Reference name items) ≡ true
reference_kept name t ts items f (all, some) =
    let (is, other, before) = reference_formed is_symbolic name (Trees.Then t ts) f in
    rw (a_reference is_symbolic name items (call_kept name t ts items some ∙ other) is, all) refl

module _ (node : NodeOf) (fit : is_fit node ≡ true) where
  abbrev pub FormedTree : Site Tree → Type 0
  FormedTree site = formed is_symbolic (site.1 node) ≡ true

  abbrev FormedItems : Site Trees → Type 0
  FormedItems site = (all_formed is_symbolic (site.1 node) ≡ true) × (is_some_list (site.1 node) ≡ true)

  part_by : (n : NodeOf) (t : Tree) → is_fit n ≡ true → formed is_symbolic t ≡ true → formed is_symbolic (part_or t n) ≡ true
  part_by (NodeOf.Part u) t h f = h
  part_by _ t h f = f

  then_formed : (t : Tree) → formed is_symbolic t ≡ true → All FormedTree (parts_behind t) → All FormedTree (part_then t (parts_behind t))
  then_formed t f rest = All-cons FormedTree (NodeOf.Part t, part_or t) (parts_behind t) (part_by node t fit f) rest

  mutual
    parts_put : (t : Tree) → formed is_symbolic t ≡ true → All FormedTree (parts_behind t)
    parts_put (Tree.Number n) f = All-nil FormedTree
    parts_put (Tree.Truth b) f = All-nil FormedTree
    parts_put (Tree.Reference name Trees.None) f = All-nil FormedTree
    parts_put (Tree.Reference name (Trees.Then t ts)) f =
        All-map FormedTree (site_within (Tree.Reference name)) (item_sites (Trees.Then t ts))
        (All-weaker FormedItems (λ site. formed is_symbolic (Tree.Reference name (site.1 node)) ≡ true) (λ site h. reference_kept name t ts (site.1 node) f h)
        (item_sites (Trees.Then t ts)) (items_put (Trees.Then t ts) (reference_formed is_symbolic name (Trees.Then t ts) f).2))
    parts_put (Tree.Call g items) f =
        All-map FormedTree (site_within (Tree.Call g)) (item_sites items)
        (All-weaker FormedItems (λ site. formed is_symbolic (Tree.Call g (site.1 node)) ≡ true) (λ site h. rw (h.1, h.0) refl)
        (item_sites items) (items_put items (and_true (is_some_list items) (all_formed is_symbolic items) f).1))
    parts_put (Tree.Signed sign t) f = All-map FormedTree (site_within (Tree.Signed sign)) (tree_sites t) (then_formed t f (parts_put t f))
    parts_put (Tree.Not t) f = All-map FormedTree (site_within Tree.Not) (tree_sites t) (then_formed t f (parts_put t f))
    parts_put (Tree.Binary op a b) f =
        let (first, second) = and_true (formed is_symbolic a) (formed is_symbolic b) f in
        All-append FormedTree (map (site_within (λ c. Tree.Binary op c b)) (tree_sites a)) (map (site_within (Tree.Binary op a)) (tree_sites b))
        (All-map FormedTree (site_within (λ c. Tree.Binary op c b)) (tree_sites a)
        (All-weaker FormedTree (λ site. formed is_symbolic (Tree.Binary op (site.1 node) b) ≡ true) (λ site h. rw (h, second) refl) (tree_sites a)
        (then_formed a first (parts_put a first))))
        (All-map FormedTree (site_within (Tree.Binary op a)) (tree_sites b)
        (All-weaker FormedTree (λ site. formed is_symbolic (Tree.Binary op a (site.1 node)) ≡ true) (λ site h. rw (first, h) refl) (tree_sites b)
        (then_formed b second (parts_put b second))))
    parts_put (Tree.ZeroPush t) f = All-map FormedTree (site_within Tree.ZeroPush) (tree_sites t) (then_formed t f (parts_put t f))

    items_put : (items : Trees) → all_formed is_symbolic items ≡ true → All FormedItems (item_sites items)
    items_put Trees.None f = All-nil FormedItems
    items_put (Trees.Then t ts) f =
        let (first, others) = and_true (formed is_symbolic t) (all_formed is_symbolic ts) f in
        All-append FormedItems (map (site_within (λ u. Trees.Then u ts)) (tree_sites t)) (map (site_within (Trees.Then t)) (item_sites ts))
        (All-map FormedItems (site_within (λ u. Trees.Then u ts)) (tree_sites t)
        (All-weaker FormedTree (λ site. FormedItems (site_within (λ u. Trees.Then u ts) site)) (λ site h. (rw (h, others) refl, some_then (site.1 node) ts)) (tree_sites t)
        (then_formed t first (parts_put t first))))
        (All-map FormedItems (site_within (Trees.Then t)) (item_sites ts)
        (All-weaker FormedItems (λ site. FormedItems (site_within (Trees.Then t) site)) (λ site h. (rw (first, h.0) refl, some_then t (site.1 node))) (item_sites ts)
        (items_put ts others)))

  tree_put : (t : Tree) → formed is_symbolic t ≡ true → All FormedTree (tree_sites t)
  tree_put t f = then_formed t f (parts_put t f)

  step_put : (c : Option Tree) → value_formed is_symbolic c ≡ true → All (λ site. value_formed is_symbolic (site.1 node) ≡ true) (step_sites c)
  step_put None f = All-nil (λ site. value_formed is_symbolic (site.1 node) ≡ true)
  step_put (Some t) f = All-map (λ site. value_formed is_symbolic (site.1 node) ≡ true) (site_within Some) (tree_sites t) (tree_put t f)

  -- the reference that an assignment assigns to
  abbrev FormedTarget : Site (List ℕ × Trees) → Type 0
  FormedTarget site = (is_symbolic (site.1 node).0 ≡ true) × (all_formed is_symbolic (site.1 node).1 ≡ true)

  target_by : (n : NodeOf) (name : List ℕ) (items : Trees) → is_fit n ≡ true → is_symbolic name ≡ true → all_formed is_symbolic items ≡ true
      → (is_symbolic (target_or (name, items) n).0 ≡ true) × (all_formed is_symbolic (target_or (name, items) n).1 ≡ true)
  target_by (NodeOf.Target other others) name items h is all = and_true (is_symbolic other) (all_formed is_symbolic others) h
  target_by _ name items h is all = (is, all)

  target_put : (name : List ℕ) (items : Trees) → is_symbolic name ≡ true → all_formed is_symbolic items ≡ true → All FormedTarget (target_sites (name, items))
  target_put name items is all =
      All-cons FormedTarget (NodeOf.Target name items, target_or (name, items)) (map (site_within (λ others. (name, others))) (item_sites items))
      (target_by node name items fit is all)
      (All-map FormedTarget (site_within (λ others. (name, others))) (item_sites items)
      (All-weaker FormedItems (λ site. FormedTarget (site_within (λ others. (name, others)) site)) (λ site h. (is, h.0)) (item_sites items) (items_put items all)))

  -- a list with something put in the place of one of its items
  module _ {X : Type 0} (test : X → Bool) (of : X → List (Site X))
      (each : (x : X) → test x ≡ true → All (λ site. test (site.1 node) ≡ true) (of x)) where
    abbrev FormedList : Site (List X) → Type 0
    FormedList site = (list_all test (site.1 node) ≡ true) × (has_items (site.1 node) ≡ true)

    list_put : (xs : List X) → list_all test xs ≡ true → All FormedList (list_sites of xs)
    list_put [] h = All-nil FormedList
    list_put (x ∷ xs) h =
        let (first, others) = and_true (test x) (list_all test xs) h in
        All-append FormedList (map (site_within (λ y. y ∷ xs)) (of x)) (map (site_within (λ ys. x ∷ ys)) (list_sites of xs))
        (All-map FormedList (site_within (λ y. y ∷ xs)) (of x)
        (All-weaker (λ site. test (site.1 node) ≡ true) (λ site. FormedList (site_within (λ y. y ∷ xs) site)) (λ site e. (rw (e, others) refl, refl)) (of x) (each x first)))
        (All-map FormedList (site_within (λ ys. x ∷ ys)) (list_sites of xs)
        (All-weaker FormedList (λ site. FormedList (site_within (λ ys. x ∷ ys) site)) (λ site e. (rw (first, e.0) refl, refl)) (list_sites of xs) (list_put xs others)))

  group_put : (g : GroupFields) → is_group is_symbolic g ≡ true → All (λ site. is_group is_symbolic (site.1 node) ≡ true) (group_sites g)
  group_put g h =
      let (named, valued) = and_true (some_all is_symbolic g.names) (some_all any_value g.values) h in
      let whole : List Value → GroupFields = λ values. record { names = g.names; values = values } in
      let P : Site GroupFields → Type 0 = λ site. is_group is_symbolic (site.1 node) ≡ true in
      All-append P (map (λ name. fixed g (NodeOf.Named name)) g.names) (map (site_within whole) (list_sites value_sites g.values))
      (each_mapped P (λ name. fixed g (NodeOf.Named name)) g.names (λ name. h))
      (All-map P (site_within whole) (list_sites value_sites g.values)
      (All-weaker (FormedList any_value value_sites values_put) (λ site. P (site_within whole site)) (λ site e. rw (named, some_of_each any_value (site.1 node) e.1 e.0) refl)
      (list_sites value_sites g.values) (list_put any_value value_sites values_put g.values (each_of_some any_value g.values valued))))
    where
      values_put : (v : Value) → any_value v ≡ true → All (λ site. any_value (site.1 node) ≡ true) (value_sites v)
      values_put v h = always (λ site. any_value (site.1 node) ≡ true) (value_sites v) (λ site. refl)

  -- a statement stays formed, and of the same form, whatever fits is put at its sites
  abbrev pub Keeps : Statement → Site Statement → Type 0
  Keeps s site = (statement_formed is_symbolic (site.1 node) ≡ true) × (form_of (site.1 node) ≡ form_of s)

  inner_by : (n : NodeOf) (s : Statement) → is_fit n ≡ true → is_action s ≡ true → statement_formed is_symbolic s ≡ true
      → (is_action (statement_or s n) ≡ true) × (statement_formed is_symbolic (statement_or s n) ≡ true)
  inner_by (NodeOf.Itself other) s h is f = and_true (is_action other) (statement_formed is_symbolic other) h
  inner_by _ s h is f = (is, f)

  -- a statement that has expressions in one place
  by_trees : (s : Statement) (whole : Tree → Statement) (t : Tree) → formed is_symbolic t ≡ true
      → ((u : Tree) → formed is_symbolic u ≡ true → (statement_formed is_symbolic (whole u) ≡ true) × (form_of (whole u) ≡ form_of s))
      → All (Keeps s) (map (site_within whole) (tree_sites t))
  by_trees s whole t f kept =
      All-map (Keeps s) (site_within whole) (tree_sites t)
      (All-weaker FormedTree (λ site. Keeps s (site_within whole site)) (λ site h. kept (site.1 node) h) (tree_sites t) (tree_put t f))

  -- a statement that has labels, which may be of any size
  by_labels : (s : Statement) (whole : ℕ → Statement) (label : ℕ)
      → ((l : ℕ) → (statement_formed is_symbolic (whole l) ≡ true) × (form_of (whole l) ≡ form_of s)) → All (Keeps s) (map (site_within whole) (label_sites label))
  by_labels s whole label kept = each_mapped (Keeps s) (site_within whole) (label_sites label) (λ site. kept (site.1 node))

  name_by : (n : NodeOf) (name : List ℕ) → is_fit n ≡ true → is_symbolic name ≡ true → is_symbolic (name_or name n) ≡ true
  name_by (NodeOf.Named other) name h is = h
  name_by _ name h is = is

  pub behind_put : (s : Statement) → statement_formed is_symbolic s ≡ true → All (Keeps s) (sites_behind s)
  behind_put (Statement.Subroutine name names) f =
      each_mapped (Keeps (Statement.Subroutine name names)) (λ n. fixed (Statement.Subroutine name names) (NodeOf.Named n)) names (λ n. (f, refl))
  behind_put (Statement.Declare kind ds) f =
      each_mapped (Keeps (Statement.Declare kind ds)) (λ d. fixed (Statement.Declare kind ds) (NodeOf.Declared d)) ds (λ d. (f, refl))
  behind_put (Statement.Dimension ds) f =
      each_mapped (Keeps (Statement.Dimension ds)) (λ d. fixed (Statement.Dimension ds) (NodeOf.Declared d)) ds (λ d. (f, refl))
  behind_put (Statement.Preset gs) f =
      All-map (Keeps (Statement.Preset gs)) (site_within Statement.Preset) (list_sites group_sites gs)
      (All-weaker (FormedList (is_group is_symbolic) group_sites group_put) (λ site. Keeps (Statement.Preset gs) (site_within Statement.Preset site))
      (λ site e. (some_of_each (is_group is_symbolic) (site.1 node) e.1 e.0, refl)) (list_sites group_sites gs)
      (list_put (is_group is_symbolic) group_sites group_put gs (each_of_some (is_group is_symbolic) gs f)))
  behind_put (Statement.Assign name items t) f =
      let (is, rest) = and_true (is_symbolic name) (all_formed is_symbolic items && formed is_symbolic t) f in
      let (all, value) = and_true (all_formed is_symbolic items) (formed is_symbolic t) rest in
      let s : Statement = Statement.Assign name items t in
      let whole : List ℕ × Trees → Statement = λ place. Statement.Assign place.0 place.1 t in
      All-append (Keeps s) (map (site_within whole) (target_sites (name, items))) (map (site_within (Statement.Assign name items)) (tree_sites t))
      (All-map (Keeps s) (site_within whole) (target_sites (name, items))
      (All-weaker FormedTarget (λ site. Keeps s (site_within whole site)) (λ site h. (rw (h.0, h.1, value) refl, refl)) (target_sites (name, items))
      (target_put name items is all)))
      (by_trees s (Statement.Assign name items) t value (λ u h. (rw (is, all, h) refl, refl)))
  behind_put (Statement.Goto label) f = by_labels (Statement.Goto label) Statement.Goto label (λ l. (refl, refl))
  behind_put (Statement.ComputedGoto labels t) f =
      let (some, value) = and_true (has_items labels) (formed is_symbolic t) f in
      let s : Statement = Statement.ComputedGoto labels t in
      let whole : List ℕ → Statement = λ ls. Statement.ComputedGoto ls t in
      All-append (Keeps s) (map (site_within whole) (list_sites label_sites labels)) (map (site_within (Statement.ComputedGoto labels)) (tree_sites t))
      (All-map (Keeps s) (site_within whole) (list_sites label_sites labels)
      (All-weaker (FormedList (λ (l : ℕ). true) label_sites labels_put) (λ site. Keeps s (site_within whole site)) (λ site e. (rw (e.1, value) refl, refl))
      (list_sites label_sites labels) (list_put (λ (l : ℕ). true) label_sites labels_put labels (each_true labels))))
      (by_trees s (Statement.ComputedGoto labels) t value (λ u h. (rw (some, h) refl, refl)))
    where
      labels_put : (l : ℕ) → true ≡ true → All (λ site. true ≡ true) (label_sites l)
      labels_put l h = always (λ site. true ≡ true) (label_sites l) (λ site. refl)

      each_true : (ls : List ℕ) → list_all (λ (l : ℕ). true) ls ≡ true
      each_true [] = refl
      each_true (l ∷ ls) = each_true ls
  behind_put (Statement.ArithIf t l m n) f =
      let s : Statement = Statement.ArithIf t l m n in
      let third = map (site_within (λ k. Statement.ArithIf t l k n)) (label_sites m) ++ map (site_within (Statement.ArithIf t l m)) (label_sites n) in
      let second = map (site_within (λ k. Statement.ArithIf t k m n)) (label_sites l) ++ third in
      All-append (Keeps s) (map (site_within (λ u. Statement.ArithIf u l m n)) (tree_sites t)) second
      (by_trees s (λ u. Statement.ArithIf u l m n) t f (λ u h. (h, refl)))
      (All-append (Keeps s) (map (site_within (λ k. Statement.ArithIf t k m n)) (label_sites l)) third
      (by_labels s (λ k. Statement.ArithIf t k m n) l (λ k. (f, refl)))
      (All-append (Keeps s) (map (site_within (λ k. Statement.ArithIf t l k n)) (label_sites m)) (map (site_within (Statement.ArithIf t l m)) (label_sites n))
      (by_labels s (λ k. Statement.ArithIf t l k n) m (λ k. (f, refl))) (by_labels s (Statement.ArithIf t l m) n (λ k. (f, refl)))))
  behind_put (Statement.LogicalIf t inner) f =
      let (test, rest) = and_true (formed is_symbolic t) (is_action inner && statement_formed is_symbolic inner) f in
      let (is, own) = and_true (is_action inner) (statement_formed is_symbolic inner) rest in
      let s : Statement = Statement.LogicalIf t inner in
      let first = inner_by node inner fit is own in
      All-append (Keeps s) (map (site_within (λ u. Statement.LogicalIf u inner)) (tree_sites t))
      (map (site_within (Statement.LogicalIf t)) (statement_then inner (sites_behind inner)))
      (by_trees s (λ u. Statement.LogicalIf u inner) t test (λ u h. (rw (h, is, own) refl, refl)))
      (All-map (Keeps s) (site_within (Statement.LogicalIf t)) (statement_then inner (sites_behind inner))
      (All-cons (λ site. Keeps s (site_within (Statement.LogicalIf t) site)) (NodeOf.Itself inner, statement_or inner) (sites_behind inner)
      (rw (test, first.0, first.1) refl, refl)
      (All-weaker (Keeps inner) (λ site. Keeps s (site_within (Statement.LogicalIf t) site))
      (λ site h. (rw (test, ap acts h.1 ∙ is, h.0) refl, refl)) (sites_behind inner) (behind_put inner own))))
  behind_put (Statement.BlockIf t) f = by_trees (Statement.BlockIf t) Statement.BlockIf t f (λ u h. (h, refl))
  behind_put (Statement.ElseIf t) f = by_trees (Statement.ElseIf t) Statement.ElseIf t f (λ u h. (h, refl))
  behind_put Statement.Else f = All-nil (Keeps Statement.Else)
  behind_put Statement.EndIf f = All-nil (Keeps Statement.EndIf)
  behind_put (Statement.Loop label name a b c) f =
      let (is, rest) = and_true (is_symbolic name) (formed is_symbolic a && (formed is_symbolic b && value_formed is_symbolic c)) f in
      let (first, others) = and_true (formed is_symbolic a) (formed is_symbolic b && value_formed is_symbolic c) rest in
      let (second, third) = and_true (formed is_symbolic b) (value_formed is_symbolic c) others in
      let s : Statement = Statement.Loop label name a b c in
      let lasts = map (site_within (λ u. Statement.Loop label name a u c)) (tree_sites b) ++ map (site_within (Statement.Loop label name a b)) (step_sites c) in
      let firsts = map (site_within (λ u. Statement.Loop label name u b c)) (tree_sites a) ++ lasts in
      All-append (Keeps s) (map (site_within (λ l. Statement.Loop l name a b c)) (label_sites label))
      (map (site_within (λ n. Statement.Loop label n a b c)) (name_sites name) ++ firsts)
      (by_labels s (λ l. Statement.Loop l name a b c) label (λ l. (f, refl)))
      (All-append (Keeps s) (map (site_within (λ n. Statement.Loop label n a b c)) (name_sites name)) firsts
      (All-cons (Keeps s) (site_within (λ n. Statement.Loop label n a b c) (NodeOf.Named name, name_or name)) []
      (rw (name_by node name fit is, first, second, third) refl, refl) (All-nil (Keeps s)))
      (All-append (Keeps s) (map (site_within (λ u. Statement.Loop label name u b c)) (tree_sites a)) lasts
      (by_trees s (λ u. Statement.Loop label name u b c) a first (λ u h. (rw (is, h, second, third) refl, refl)))
      (All-append (Keeps s) (map (site_within (λ u. Statement.Loop label name a u c)) (tree_sites b)) (map (site_within (Statement.Loop label name a b)) (step_sites c))
      (by_trees s (λ u. Statement.Loop label name a u c) b second (λ u h. (rw (is, first, h, third) refl, refl)))
      (All-map (Keeps s) (site_within (Statement.Loop label name a b)) (step_sites c)
      (All-weaker (λ site. value_formed is_symbolic (site.1 node) ≡ true) (λ site. Keeps s (site_within (Statement.Loop label name a b) site))
      (λ site h. (rw (is, first, second, h) refl, refl)) (step_sites c) (step_put c third))))))
  behind_put Statement.Continue f = All-nil (Keeps Statement.Continue)
  behind_put Statement.Return f = All-nil (Keeps Statement.Return)
  behind_put Statement.Stop f = All-nil (Keeps Statement.Stop)
  behind_put Statement.Trap f = All-nil (Keeps Statement.Trap)
  behind_put Statement.End f = All-nil (Keeps Statement.End)
