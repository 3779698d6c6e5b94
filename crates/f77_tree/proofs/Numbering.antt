-- The sites stand in the order of the nodes.
use Rattle.f77_tree.proofs.Common.{map, refl, ◌≡◌, ℕ, sym, ◌∙◌, ap, ◌++◌, List, [], ◌∷◌, Option, Some, None, map-append, flat_map, NodeOf, tree_sites}
use Rattle.f77_tree.proofs.Common.{label_sites, Tree, group_sites, sites_behind, GroupFields, Site, Trees, all_parts, group_nodes, list_sites, site_within}
use Rattle.f77_tree.proofs.Common.{value_sites, item_sites, parts, step_sites, target_sites, tree_nodes, fixed, label_nodes, nodes_of, sites, value_nodes}
use Rattle.f77_tree.proofs.Common.{node_at, nodes_behind, Statement, Value}

pub nodes_within : {X Y : Type 0} (f : X → Y) (xs : List (Site X)) → map node_at (map (site_within f) xs) ≡ map node_at xs
nodes_within f [] = refl
nodes_within f (x ∷ xs) = ap (λ z. x.0 ∷ z) (nodes_within f xs)

-- the sites of a part before others
nodes_then : {X Z : Type 0} (f : X → Z) (xs : List (Site X)) (zs : List (Site Z)) → map node_at (map (site_within f) xs ++ zs) ≡ map node_at xs ++ map node_at zs
nodes_then f xs zs = map-append node_at (map (site_within f) xs) zs ∙ ap (λ l. l ++ map node_at zs) (nodes_within f xs)

nodes_both : {X Y Z : Type 0} (f : X → Z) (g : Y → Z) (xs : List (Site X)) (ys : List (Site Y))
    → map node_at (map (site_within f) xs ++ map (site_within g) ys) ≡ map node_at xs ++ map node_at ys
nodes_both f g xs ys = nodes_then f xs (map (site_within g) ys) ∙ ap (λ l. map node_at xs ++ l) (nodes_within g ys)

nodes_fixed : {A X : Type 0} (x : X) (f : A → NodeOf) (names : List A) → map node_at (map (λ a. fixed x (f a)) names) ≡ map f names
nodes_fixed x f [] = refl
nodes_fixed x f (a ∷ names) = ap (λ l. f a ∷ l) (nodes_fixed x f names)

nodes_list : {X : Type 0} (of : X → List (Site X)) (nodes : X → List NodeOf) (same : (x : X) → map node_at (of x) ≡ nodes x) (xs : List X)
    → map node_at (list_sites of xs) ≡ flat_map nodes xs
nodes_list of nodes same [] = refl
nodes_list of nodes same (x ∷ xs) =
    nodes_both (λ y. y ∷ xs) (λ ys. x ∷ ys) (of x) (list_sites of xs)
    ∙ ap (λ l. l ++ map node_at (list_sites of xs)) (same x) ∙ ap (λ l. nodes x ++ l) (nodes_list of nodes same xs)

-- one node each
nodes_singles : {X : Type 0} (of : X → List (Site X)) (node : X → NodeOf) (same : (x : X) → map node_at (of x) ≡ node x ∷ []) (xs : List X)
    → map node_at (list_sites of xs) ≡ map node xs
nodes_singles of node same [] = refl
nodes_singles of node same (x ∷ xs) =
    nodes_both (λ y. y ∷ xs) (λ ys. x ∷ ys) (of x) (list_sites of xs)
    ∙ ap (λ l. l ++ map node_at (list_sites of xs)) (same x) ∙ ap (λ l. node x ∷ l) (nodes_singles of node same xs)

mutual
  tree_numbering : (t : Tree) → map node_at (tree_sites t) ≡ tree_nodes t
  tree_numbering (Tree.Number n) = refl
  tree_numbering (Tree.Truth b) = refl
  tree_numbering (Tree.Reference name items) =
      ap (λ l. NodeOf.Part (Tree.Reference name items) ∷ l) (nodes_within (Tree.Reference name) (item_sites items) ∙ item_numbering items)
  tree_numbering (Tree.Call f items) = ap (λ l. NodeOf.Part (Tree.Call f items) ∷ l) (nodes_within (Tree.Call f) (item_sites items) ∙ item_numbering items)
  tree_numbering (Tree.Signed sign t) = ap (λ l. NodeOf.Part (Tree.Signed sign t) ∷ l) (nodes_within (Tree.Signed sign) (tree_sites t) ∙ tree_numbering t)
  tree_numbering (Tree.Not t) = ap (λ l. NodeOf.Part (Tree.Not t) ∷ l) (nodes_within Tree.Not (tree_sites t) ∙ tree_numbering t)
  tree_numbering (Tree.Binary op a b) =
      ap (λ l. NodeOf.Part (Tree.Binary op a b) ∷ l)
      (nodes_both (λ c. Tree.Binary op c b) (Tree.Binary op a) (tree_sites a) (tree_sites b)
      ∙ ap (λ l. l ++ map node_at (tree_sites b)) (tree_numbering a) ∙ ap (λ l. tree_nodes a ++ l) (tree_numbering b)
      ∙ sym (map-append NodeOf.Part (parts a) (parts b)))
  tree_numbering (Tree.ZeroPush t) = ap (λ l. NodeOf.Part (Tree.ZeroPush t) ∷ l) (nodes_within Tree.ZeroPush (tree_sites t) ∙ tree_numbering t)

  item_numbering : (ts : Trees) → map node_at (item_sites ts) ≡ map NodeOf.Part (all_parts ts)
  item_numbering Trees.None = refl
  item_numbering (Trees.Then t ts) =
      nodes_both (λ u. Trees.Then u ts) (Trees.Then t) (tree_sites t) (item_sites ts)
      ∙ ap (λ l. l ++ map node_at (item_sites ts)) (tree_numbering t) ∙ ap (λ l. tree_nodes t ++ l) (item_numbering ts)
      ∙ sym (map-append NodeOf.Part (parts t) (all_parts ts))

step_numbering : (c : Option Tree) → map node_at (step_sites c) ≡ value_nodes c
step_numbering None = refl
step_numbering (Some t) = nodes_within Some (tree_sites t) ∙ tree_numbering t

group_numbering : (g : GroupFields) → map node_at (group_sites g) ≡ group_nodes g
group_numbering g =
    let values : List (Site (List Value)) = list_sites value_sites g.values in
    let whole : List Value → GroupFields = λ values. record { names = g.names; values = values } in
    map-append node_at (map (λ name. fixed g (NodeOf.Named name)) g.names) (map (site_within whole) values)
    ∙ ap (λ l. l ++ map node_at (map (site_within whole) values)) (nodes_fixed g NodeOf.Named g.names)
    ∙ ap (λ l. map NodeOf.Named g.names ++ l) (nodes_within whole values ∙ nodes_singles value_sites NodeOf.Initial (λ value. refl) g.values)

target_numbering : (name : List ℕ) (items : Trees) → map node_at (target_sites (name, items)) ≡ NodeOf.Target name items ∷ map NodeOf.Part (all_parts items)
target_numbering name items =
    let whole : Trees → List ℕ × Trees = λ others. (name, others) in
    ap (λ l. NodeOf.Target name items ∷ l) (nodes_within whole (item_sites items) ∙ item_numbering items)

pub behind_numbering : (s : Statement) → map node_at (sites_behind s) ≡ nodes_behind s
behind_numbering (Statement.Subroutine name names) = nodes_fixed (Statement.Subroutine name names) NodeOf.Named names
behind_numbering (Statement.Declare kind ds) = nodes_fixed (Statement.Declare kind ds) NodeOf.Declared ds
behind_numbering (Statement.Dimension ds) = nodes_fixed (Statement.Dimension ds) NodeOf.Declared ds
behind_numbering (Statement.Preset gs) = nodes_within Statement.Preset (list_sites group_sites gs) ∙ nodes_list group_sites group_nodes group_numbering gs
behind_numbering (Statement.Assign name items t) =
    let whole : List ℕ × Trees → Statement = λ place. Statement.Assign place.0 place.1 t in
    nodes_both whole (Statement.Assign name items) (target_sites (name, items)) (tree_sites t)
    ∙ ap (λ l. l ++ map node_at (tree_sites t)) (target_numbering name items)
    ∙ ap (λ l. (NodeOf.Target name items ∷ map NodeOf.Part (all_parts items)) ++ l) (tree_numbering t)
behind_numbering (Statement.Goto label) = refl
behind_numbering (Statement.ComputedGoto labels t) =
    nodes_both (λ ls. Statement.ComputedGoto ls t) (Statement.ComputedGoto labels) (list_sites label_sites labels) (tree_sites t)
    ∙ ap (λ l. l ++ map node_at (tree_sites t)) (nodes_singles label_sites NodeOf.Labelled (λ label. refl) labels)
    ∙ ap (λ l. map NodeOf.Labelled labels ++ l) (tree_numbering t)
behind_numbering (Statement.ArithIf t l m n) = nodes_then (λ u. Statement.ArithIf u l m n) (tree_sites t) _ ∙ ap (λ z. z ++ label_nodes l m n) (tree_numbering t)
behind_numbering (Statement.LogicalIf t s) =
    nodes_both (λ u. Statement.LogicalIf u s) (Statement.LogicalIf t) (tree_sites t) (sites s)
    ∙ ap (λ l. l ++ map node_at (sites s)) (tree_numbering t) ∙ ap (λ l. tree_nodes t ++ (NodeOf.Itself s ∷ l)) (behind_numbering s)
behind_numbering (Statement.BlockIf t) = nodes_within Statement.BlockIf (tree_sites t) ∙ tree_numbering t
behind_numbering (Statement.ElseIf t) = nodes_within Statement.ElseIf (tree_sites t) ∙ tree_numbering t
behind_numbering (Statement.Loop label name a b c) =
    ap (λ l. NodeOf.Labelled label ∷ (NodeOf.Named name ∷ l))
    (nodes_then (λ u. Statement.Loop label name u b c) (tree_sites a) _
    ∙ ap (λ l. map node_at (tree_sites a) ++ l)
    (nodes_both (λ u. Statement.Loop label name a u c) (Statement.Loop label name a b) (tree_sites b) (step_sites c)
    ∙ ap (λ l. l ++ map node_at (step_sites c)) (tree_numbering b) ∙ ap (λ l. tree_nodes b ++ l) (step_numbering c))
    ∙ ap (λ l. l ++ (tree_nodes b ++ value_nodes c)) (tree_numbering a))
behind_numbering _ = refl

pub numbering : (s : Statement) → map node_at (sites s) ≡ nodes_of s
numbering s = ap (λ l. NodeOf.Itself s ∷ l) (behind_numbering s)
