-- The sites of a statement: its nodes in their order, each with the statement that results where
-- another node is put there. A position is a place in this list, from 0.
use Rattle.std.specs.Prelude.{ℕ, List, [], ◌∷◌, ◌++◌, map, Option, Some, None, slice_get}
use Rattle.f77_tree.specs.declared.data.Value.{Value}
use Rattle.f77_tree.specs.Node.{NodeOf}
use Rattle.f77_tree.specs.Tree.{Tree, Trees, GroupFields}
use Rattle.f77_tree.specs.Statement.{Statement, jumps_of, value_of, with_labels, with_value}

-- a node of a whole, and the whole that results where another node is put there
abbrev pub Site : Type 0 → Type 0
Site X = NodeOf × (NodeOf → X)

-- the node of a site
abbrev pub node_at : {X : Type 0} → Site X → NodeOf
node_at site = site.0

-- the whole that results where a node is put at a site
abbrev pub whole_with : {X : Type 0} → Site X → NodeOf → X
whole_with site = site.1

-- a site of a part, as a site of the whole
abbrev pub site_within : {X Y : Type 0} → (X → Y) → Site X → Site Y
site_within f site = (node_at site, λ node. f (whole_with site node))

-- a node is put in the place of an expression: unless it is an expression too, nothing changes
abbrev pub part_or : Tree → NodeOf → Tree
part_or t (NodeOf.Part u) = u
part_or t _ = t

abbrev pub target_or : List ℕ × Trees → NodeOf → List ℕ × Trees
target_or place (NodeOf.Target name items) = (name, items)
target_or place _ = place

abbrev pub name_or : List ℕ → NodeOf → List ℕ
name_or name (NodeOf.Named other) = other
name_or name _ = name

abbrev pub label_or : ℕ → NodeOf → ℕ
label_or label (NodeOf.Labelled other) = other
label_or label _ = label

abbrev pub value_or : Value → NodeOf → Value
value_or value (NodeOf.Initial other) = other
value_or value _ = value

abbrev pub statement_or : Statement → NodeOf → Statement
statement_or s (NodeOf.Itself other) = other
statement_or s _ = s

-- a node that stays, whatever is put there
abbrev pub fixed : {X : Type 0} → X → NodeOf → Site X
fixed x node = (node, λ other. x)

-- the sites of each item of a list
abbrev pub list_sites : {X : Type 0} → (X → List (Site X)) → List X → List (Site (List X))
list_sites sites [] = []
list_sites sites (x ∷ xs) = map (site_within (λ y. y ∷ xs)) (sites x)
    ++ map (site_within (λ ys. x ∷ ys)) (list_sites sites xs)

-- the sites of an expression: itself, then those of its parts
abbrev pub part_then : Tree → List (Site Tree) → List (Site Tree)
part_then t rest = (NodeOf.Part t, part_or t) ∷ rest

-- the sites of the parts of an expression, in preorder; and of the expressions of a list
abbrev mutual
  pub parts_behind : Tree → List (Site Tree)
  parts_behind (Tree.Number n) = []
  parts_behind (Tree.Truth b) = []
  parts_behind (Tree.Reference name items) =
      map (site_within (Tree.Reference name)) (item_sites items)
  parts_behind (Tree.Call f items) = map (site_within (Tree.Call f)) (item_sites items)
  parts_behind (Tree.Signed sign t) =
      map (site_within (Tree.Signed sign)) (part_then t (parts_behind t))
  parts_behind (Tree.Not t) = map (site_within Tree.Not) (part_then t (parts_behind t))
  parts_behind (Tree.Binary op a b) =
      map (site_within (λ c. Tree.Binary op c b)) (part_then a (parts_behind a))
      ++ map (site_within (Tree.Binary op a)) (part_then b (parts_behind b))
  parts_behind (Tree.ZeroPush t) = map (site_within Tree.ZeroPush) (part_then t (parts_behind t))

  pub item_sites : Trees → List (Site Trees)
  item_sites Trees.None = []
  item_sites (Trees.Then t ts) =
      map (site_within (λ u. Trees.Then u ts)) (part_then t (parts_behind t))
      ++ map (site_within (Trees.Then t)) (item_sites ts)

-- the sites of an expression: itself and its parts
abbrev pub tree_sites : Tree → List (Site Tree)
tree_sites t = part_then t (parts_behind t)

-- the sites of the third parameter of a DO, if it has one
abbrev pub step_sites : Option Tree → List (Site (Option Tree))
step_sites None = []
step_sites (Some t) = map (site_within Some) (tree_sites t)

-- the sites of a reference that is assigned to: itself, then the parts of its subscripts
abbrev pub target_sites : List ℕ × Trees → List (Site (List ℕ × Trees))
target_sites place = (NodeOf.Target place.0 place.1, target_or place)
    ∷ map (site_within (λ items. (place.0, items))) (item_sites place.1)

-- the site of a label
abbrev pub label_sites : ℕ → List (Site ℕ)
label_sites label = (NodeOf.Labelled label, label_or label) ∷ []

-- the site of a name
abbrev pub name_sites : List ℕ → List (Site (List ℕ))
name_sites name = (NodeOf.Named name, name_or name) ∷ []

-- the site of a value of DATA
abbrev pub value_sites : Value → List (Site Value)
value_sites value = (NodeOf.Initial value, value_or value) ∷ []

-- the sites of a group of DATA: its names, which stay, then its values
abbrev pub group_sites : GroupFields → List (Site GroupFields)
group_sites group =
    map (λ name. fixed group (NodeOf.Named name)) group.names
    ++ map (site_within (λ values. record { names = group.names; values = values }))
    (list_sites value_sites group.values)

-- the sites of a statement: itself, then those behind it
abbrev pub statement_then : Statement → List (Site Statement) → List (Site Statement)
statement_then s rest = (NodeOf.Itself s, statement_or s) ∷ rest

-- the sites of the expression of a statement, if it has one
abbrev pub expression_sites : Statement → Option Tree → List (Site Statement)
expression_sites s None = []
expression_sites s (Some t) = map (site_within (with_value s)) (tree_sites t)

-- The sites behind a statement's own: mostly its labels, then its expression. Dummy arguments and
-- declared names stay.
abbrev pub sites_behind : Statement → List (Site Statement)
sites_behind (Statement.Subroutine name names) =
    map (λ n. fixed (Statement.Subroutine name names) (NodeOf.Named n)) names
sites_behind (Statement.Declare kind ds) =
    map (λ d. fixed (Statement.Declare kind ds) (NodeOf.Declared d)) ds
sites_behind (Statement.Dimension ds) =
    map (λ d. fixed (Statement.Dimension ds) (NodeOf.Declared d)) ds
sites_behind (Statement.Preset gs) = map (site_within Statement.Preset) (list_sites group_sites gs)
sites_behind (Statement.Assign name items t) =
    map (site_within (λ place. Statement.Assign place.0 place.1 t)) (target_sites (name, items))
    ++ map (site_within (Statement.Assign name items)) (tree_sites t)
sites_behind (Statement.ArithIf t l m n) =
    map (site_within (λ u. Statement.ArithIf u l m n)) (tree_sites t)
    ++ (map (site_within (λ k. Statement.ArithIf t k m n)) (label_sites l)
    ++ (map (site_within (λ k. Statement.ArithIf t l k n)) (label_sites m)
    ++ map (site_within (Statement.ArithIf t l m)) (label_sites n)))
sites_behind (Statement.LogicalIf t s) =
    map (site_within (λ u. Statement.LogicalIf u s)) (tree_sites t)
    ++ map (site_within (Statement.LogicalIf t)) (statement_then s (sites_behind s))
sites_behind (Statement.Loop label name a b c) =
    map (site_within (λ l. Statement.Loop l name a b c)) (label_sites label)
    ++ (map (site_within (λ n. Statement.Loop label n a b c)) (name_sites name)
    ++ (map (site_within (λ u. Statement.Loop label name u b c)) (tree_sites a)
    ++ (map (site_within (λ u. Statement.Loop label name a u c)) (tree_sites b)
    ++ map (site_within (Statement.Loop label name a b)) (step_sites c))))
sites_behind s = map (site_within (with_labels s)) (list_sites label_sites (jumps_of s))
    ++ expression_sites s (value_of s)

-- the sites of a statement: itself, then its parts from left to right
abbrev pub sites : Statement → List (Site Statement)
sites s = statement_then s (sites_behind s)

-- the whole with a node put at a site; where there is no such site, the whole as it is
abbrev pub put_node : {X : Type 0} → Option (Site X) → NodeOf → X → X
put_node None node x = x
put_node (Some site) node x = whole_with site node

-- the statement with another node at this position
abbrev pub changed : Statement → ℕ → NodeOf → Statement
changed s position node = put_node (slice_get (sites s) position) node s
