-- The limit on constants, said of a statement part by part.
use Rattle.f77_tree.proofs.Common.{map, refl, ◌≡◌, ℕ, ◌∙◌, ap, ◌++◌, List, [], ◌∷◌, Bool, true, Option, Some, ◌&&◌, None, nat_le, list_all, flat_map, NodeOf}
use Rattle.f77_tree.proofs.Common.{Tree, GroupFields, Trees, all_parts, group_nodes, parts, tree_nodes, is_small_node, label_nodes, nodes_of, value_nodes}
use Rattle.f77_tree.proofs.Common.{DeclFields, is_label, largest_integer, of_value, parameter_nodes, statement_constants, target_nodes, Statement, Value}
use Rattle.std.proofs.lemmas.List.Folds.{list_all-append, list_all-map}
use Rattle.std.proofs.Math.Bool.{and-true}

-- a part of an expression, a bound, a declared name, a value of DATA
abbrev pub small_tree : Tree → Bool
small_tree t = is_small_node (NodeOf.Part t)

abbrev pub small_bound : ℕ → Bool
small_bound n = nat_le n largest_integer

abbrev pub decl_constants : DeclFields → Bool
decl_constants d = is_small_node (NodeOf.Declared d)

abbrev pub small_value : Value → Bool
small_value v = is_small_node (NodeOf.Initial v)

-- an expression, and the expressions of a list
abbrev mutual
  pub small_constants : Tree → Bool
  small_constants (Tree.Number n) = nat_le n largest_integer
  small_constants (Tree.Truth b) = true
  small_constants (Tree.Reference name items) = all_small_constants items
  small_constants (Tree.Call f items) = all_small_constants items
  small_constants (Tree.Signed sign t) = small_constants t
  small_constants (Tree.Not t) = small_constants t
  small_constants (Tree.Binary op a b) = small_constants a && small_constants b
  small_constants (Tree.ZeroPush t) = small_constants t

  pub all_small_constants : Trees → Bool
  all_small_constants Trees.None = true
  all_small_constants (Trees.Then t ts) = small_constants t && all_small_constants ts

abbrev pub declaration_constants : List DeclFields → Bool
declaration_constants ds = list_all decl_constants ds

abbrev pub group_constants : GroupFields → Bool
group_constants g = list_all small_value g.values

abbrev pub data_constants : List GroupFields → Bool
data_constants gs = list_all group_constants gs

-- the constants of a statement, part by part
abbrev pub by_part : Statement → Bool
by_part (Statement.Subroutine name names) = true
by_part (Statement.Declare kind ds) = declaration_constants ds
by_part (Statement.Dimension ds) = declaration_constants ds
by_part (Statement.Preset gs) = data_constants gs
by_part (Statement.Assign name items t) = all_small_constants items && small_constants t
by_part (Statement.Goto label) = is_label label
by_part (Statement.ComputedGoto labels t) = list_all is_label labels && small_constants t
by_part (Statement.ArithIf t l m n) = small_constants t && (is_label l && (is_label m && is_label n))
by_part (Statement.LogicalIf t s) = small_constants t && by_part s
by_part (Statement.BlockIf t) = small_constants t
by_part (Statement.ElseIf t) = small_constants t
by_part (Statement.Loop label name a b c) = is_label label && (small_constants a && (small_constants b && of_value small_constants c))
by_part _ = true

-- asked of the nodes, the answer is the same
mutual
  parts_small : (t : Tree) → list_all small_tree (parts t) ≡ small_constants t
  parts_small (Tree.Number n) = and-true (nat_le n largest_integer)
  parts_small (Tree.Truth b) = refl
  parts_small (Tree.Reference name items) = all_small items
  parts_small (Tree.Call f items) = all_small items
  parts_small (Tree.Signed sign t) = parts_small t
  parts_small (Tree.Not t) = parts_small t
  parts_small (Tree.Binary op a b) = rw (list_all-append small_tree (parts a) (parts b), parts_small a, parts_small b) refl
  parts_small (Tree.ZeroPush t) = parts_small t

  all_small : (ts : Trees) → list_all small_tree (all_parts ts) ≡ all_small_constants ts
  all_small Trees.None = refl
  all_small (Trees.Then t ts) = rw (list_all-append small_tree (parts t) (all_parts ts), parts_small t, all_small ts) refl

tree_small : (t : Tree) → list_all is_small_node (tree_nodes t) ≡ small_constants t
tree_small t = list_all-map is_small_node NodeOf.Part (parts t) ∙ parts_small t

step_small : (c : Option Tree) → list_all is_small_node (value_nodes c) ≡ of_value small_constants c
step_small None = refl
step_small (Some t) = tree_small t

names_pass : (names : List (List ℕ)) → list_all is_small_node (map NodeOf.Named names) ≡ true
names_pass [] = refl
names_pass (name ∷ names) = names_pass names

declared_small : (ds : List DeclFields) → list_all is_small_node (map NodeOf.Declared ds) ≡ declaration_constants ds
declared_small ds = list_all-map is_small_node NodeOf.Declared ds

labels_small : (labels : List ℕ) → list_all is_small_node (map NodeOf.Labelled labels) ≡ list_all is_label labels
labels_small labels = list_all-map is_small_node NodeOf.Labelled labels

group_small : (g : GroupFields) → list_all is_small_node (group_nodes g) ≡ group_constants g
group_small g =
    list_all-append is_small_node (map NodeOf.Named g.names) (map NodeOf.Initial g.values)
    ∙ rw (names_pass g.names) (list_all-map is_small_node NodeOf.Initial g.values)

groups_small : (gs : List GroupFields) → list_all is_small_node (flat_map group_nodes gs) ≡ data_constants gs
groups_small [] = refl
groups_small (g ∷ gs) = rw (list_all-append is_small_node (group_nodes g) (flat_map group_nodes gs), group_small g, groups_small gs) refl

target_small : (name : List ℕ) (items : Trees) → list_all is_small_node (target_nodes name items) ≡ all_small_constants items
target_small name items = list_all-map is_small_node NodeOf.Part (all_parts items) ∙ all_small items

-- two lists of nodes, each with its answer
both : (xs ys : List NodeOf) (b d : Bool) → list_all is_small_node xs ≡ b → list_all is_small_node ys ≡ d → list_all is_small_node (xs ++ ys) ≡ (b && d)
both xs ys b d e f = list_all-append is_small_node xs ys ∙ rw (e, f) refl

three_labels : (l m n : ℕ) → list_all is_small_node (label_nodes l m n) ≡ (is_label l && (is_label m && is_label n))
three_labels l m n = rw (and-true (is_label n)) refl

parameters_small : (a b : Tree) (c : Option Tree)
    → list_all is_small_node (parameter_nodes a b c) ≡ (small_constants a && (small_constants b && of_value small_constants c))
parameters_small a b c =
    both (tree_nodes a) (tree_nodes b ++ value_nodes c) (small_constants a) (small_constants b && of_value small_constants c) (tree_small a)
    (both (tree_nodes b) (value_nodes c) (small_constants b) (of_value small_constants c) (tree_small b) (step_small c))

pub decided_by_part : (s : Statement) → statement_constants s ≡ by_part s
decided_by_part (Statement.Subroutine name names) = names_pass names
decided_by_part (Statement.Declare kind ds) = declared_small ds
decided_by_part (Statement.Dimension ds) = declared_small ds
decided_by_part (Statement.Preset gs) = groups_small gs
decided_by_part (Statement.Assign name items t) =
    both (target_nodes name items) (tree_nodes t) (all_small_constants items) (small_constants t) (target_small name items) (tree_small t)
decided_by_part (Statement.Goto label) = and-true (is_label label)
decided_by_part (Statement.ComputedGoto labels t) =
    both (map NodeOf.Labelled labels) (tree_nodes t) (list_all is_label labels) (small_constants t) (labels_small labels) (tree_small t)
decided_by_part (Statement.ArithIf t l m n) =
    both (tree_nodes t) (label_nodes l m n) (small_constants t) (is_label l && (is_label m && is_label n)) (tree_small t) (three_labels l m n)
decided_by_part (Statement.LogicalIf t s) =
    both (tree_nodes t) (nodes_of s) (small_constants t) (by_part s) (tree_small t) (decided_by_part s)
decided_by_part (Statement.BlockIf t) = tree_small t
decided_by_part (Statement.ElseIf t) = tree_small t
decided_by_part (Statement.Loop label name a b c) = ap (λ z. is_label label && z) (parameters_small a b c)
decided_by_part _ = refl
