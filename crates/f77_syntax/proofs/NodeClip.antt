-- The nodes of a statement as it is kept are the nodes of the statement, each as it is kept.
use Rattle.f77_syntax.proofs.Common.{refl, ◌∙◌, sym, ap, ◌≡◌, List, ℕ, [], ◌∷◌, Some, None, length, Option, ◌++◌, map, option_map, map-append, length-map}
use Rattle.f77_syntax.proofs.Common.{list_all, flat_map, clipped, clip, clip_statement, clip_value, clip_all, clip_decl, clip_group, small_bound}
use Rattle.f77_syntax.proofs.Common.{statement_constants, statement_nodes, is_small_node, cut, Statement, Tree, Trees, GroupFields}
use Rattle.f77_tree.specs.Node.{NodeOf, parts, all_parts, tree_nodes, value_nodes, group_nodes, nodes_behind, nodes_of}
use Rattle.f77_syntax.proofs.Clip.{constant_clip, each_clip, constant_limit, least_clip}

abbrev clip_node : NodeOf → NodeOf
clip_node (NodeOf.Itself s) = NodeOf.Itself (clip_statement s)
clip_node (NodeOf.Target name items) = NodeOf.Target (cut name) (clip_all items)
clip_node (NodeOf.Part t) = NodeOf.Part (clip t)
clip_node (NodeOf.Named name) = NodeOf.Named (cut name)
clip_node (NodeOf.Declared d) = NodeOf.Declared (clip_decl d)
clip_node (NodeOf.Labelled label) = NodeOf.Labelled label
clip_node (NodeOf.Initial v) = NodeOf.Initial (clip_value v)

mutual
  parts_clip : (t : Tree) → parts (clip t) ≡ map clip (parts t)
  parts_clip (Tree.Number n) = refl
  parts_clip (Tree.Truth b) = refl
  parts_clip (Tree.Reference name items) = rw (all_parts_clip items) refl
  parts_clip (Tree.Call f items) = rw (all_parts_clip items) refl
  parts_clip (Tree.Signed sign t) = rw (parts_clip t) refl
  parts_clip (Tree.Not t) = rw (parts_clip t) refl
  parts_clip (Tree.Binary op a b) = rw (parts_clip a, parts_clip b, map-append clip (parts a) (parts b)) refl
  parts_clip (Tree.ZeroPush t) = rw (parts_clip t) refl

  all_parts_clip : (ts : Trees) → all_parts (clip_all ts) ≡ map clip (all_parts ts)
  all_parts_clip Trees.None = refl
  all_parts_clip (Trees.Then t ts) = rw (parts_clip t, all_parts_clip ts, map-append clip (parts t) (all_parts ts)) refl

-- nodes of one sort, and nodes behind others
swapped : {A : Type 0} (node : A → NodeOf) (keep : A → A) → ((x : A) → node (keep x) ≡ clip_node (node x)) → (xs : List A) → map node (map keep xs) ≡ map clip_node (map node xs)
swapped node keep same [] = refl
swapped node keep same (x ∷ xs) = rw (same x, swapped node keep same xs) refl

labels_clip : (labels : List ℕ) → map NodeOf.Labelled labels ≡ map clip_node (map NodeOf.Labelled labels)
labels_clip [] = refl
labels_clip (l ∷ labels) = ap (λ ns. NodeOf.Labelled l ∷ ns) (labels_clip labels)

both : (a b : List NodeOf) {c d : List NodeOf} → c ≡ map clip_node a → d ≡ map clip_node b → c ++ d ≡ map clip_node (a ++ b)
both a b e f = rw (e, f) (sym (map-append clip_node a b))

tree_clip : (t : Tree) → tree_nodes (clip t) ≡ map clip_node (tree_nodes t)
tree_clip t = ap (map NodeOf.Part) (parts_clip t) ∙ swapped NodeOf.Part clip (λ t. refl) (parts t)

trees_clip : (ts : Trees) → map NodeOf.Part (all_parts (clip_all ts)) ≡ map clip_node (map NodeOf.Part (all_parts ts))
trees_clip ts = ap (map NodeOf.Part) (all_parts_clip ts) ∙ swapped NodeOf.Part clip (λ t. refl) (all_parts ts)

value_clip : (c : Option Tree) → value_nodes (option_map clip c) ≡ map clip_node (value_nodes c)
value_clip None = refl
value_clip (Some t) = tree_clip t

groups_clip : (gs : List GroupFields) → flat_map group_nodes (map clip_group gs) ≡ map clip_node (flat_map group_nodes gs)
groups_clip [] = refl
groups_clip (g ∷ gs) =
    both (group_nodes g) (flat_map group_nodes gs)
    (both (map NodeOf.Named g.names) (map NodeOf.Initial g.values) (swapped NodeOf.Named cut (λ n. refl) g.names) (swapped NodeOf.Initial clip_value (λ v. refl) g.values))
    (groups_clip gs)

behind_clip : (s : Statement) → nodes_behind (clip_statement s) ≡ map clip_node (nodes_behind s)
behind_clip (Statement.Subroutine name names) = swapped NodeOf.Named cut (λ n. refl) names
behind_clip (Statement.Declare kind ds) = swapped NodeOf.Declared clip_decl (λ d. refl) ds
behind_clip (Statement.Dimension ds) = swapped NodeOf.Declared clip_decl (λ d. refl) ds
behind_clip (Statement.Preset gs) = groups_clip gs
behind_clip (Statement.Assign name items t) =
    ap (λ ns. NodeOf.Target (cut name) (clip_all items) ∷ ns) (both (map NodeOf.Part (all_parts items)) (tree_nodes t) (trees_clip items) (tree_clip t))
behind_clip (Statement.ComputedGoto labels t) = both (map NodeOf.Labelled labels) (tree_nodes t) (labels_clip labels) (tree_clip t)
behind_clip (Statement.ArithIf t l m n) = both (tree_nodes t) (map NodeOf.Labelled (l ∷ (m ∷ (n ∷ [])))) (tree_clip t) refl
behind_clip (Statement.LogicalIf t s) =
    both (tree_nodes t) (nodes_of s) (tree_clip t) (ap (λ ns. NodeOf.Itself (clip_statement s) ∷ ns) (behind_clip s))
behind_clip (Statement.BlockIf t) = tree_clip t
behind_clip (Statement.ElseIf t) = tree_clip t
behind_clip (Statement.Loop label name a b c) =
    ap (λ ns. NodeOf.Labelled label ∷ NodeOf.Named (cut name) ∷ ns)
    (both (tree_nodes a) (tree_nodes b ++ value_nodes c) (tree_clip a) (both (tree_nodes b) (value_nodes c) (tree_clip b) (value_clip c)))
behind_clip _ = refl

nodes_clip : (s : Statement) → nodes_of (clip_statement s) ≡ map clip_node (nodes_of s)
nodes_clip s = ap (λ ns. NodeOf.Itself (clip_statement s) ∷ ns) (behind_clip s)

small_clip : (n : NodeOf) → is_small_node (clip_node n) ≡ is_small_node n
small_clip (NodeOf.Part (Tree.Number n)) = constant_clip n
small_clip (NodeOf.Declared d) = each_clip small_bound clipped constant_clip d.bounds
small_clip (NodeOf.Initial v) = rw (least_clip v.times, constant_clip v.times, constant_limit v.constant) refl
small_clip _ = refl

pub statement_constants_clip : (s : Statement) → statement_constants (clip_statement s) ≡ statement_constants s
statement_constants_clip s = ap (list_all is_small_node) (nodes_clip s) ∙ each_clip is_small_node clip_node small_clip (nodes_of s)

pub statement_nodes_clip : (s : Statement) → statement_nodes (clip_statement s) ≡ statement_nodes s
statement_nodes_clip s = ap length (nodes_clip s) ∙ length-map (nodes_of s) clip_node
