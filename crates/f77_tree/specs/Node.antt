-- The nodes of a statement, numbered from 0: the statement itself, then its
-- parts from left to right, expressions in preorder (an operator before its
-- operands, a reference before its subscripts, a call before its arguments).
use Rattle.std.specs.Prelude.{ℕ, List, [], ◌∷◌, ◌++◌, map, Option, Some, None, filter_map}
use Rattle.std.specs.List.{flat_map}
use Rattle.f77_tree.specs.declared.data.Value.{Value}
use Rattle.f77_tree.specs.Tree.{Tree, Trees, DeclFields, GroupFields}
use Rattle.f77_tree.specs.Statement.{Statement, statement_of, jumps_of, value_of}
use Rattle.f77_tree.specs.declared.node.Node.{Node}
use Rattle.f77_tree.specs.declared.node.Node.TheVariants as node
use Rattle.f77_tree.specs.View.{trees, tree_of, reference_fields}
use Rattle.f77_tree.specs.Declaration.{decl_of}

-- What a node is: a statement; the reference that an assignment assigns to; an
-- expression or a part of one; a dummy argument, a name of DATA or a DO variable;
-- a declared name with its bounds; a label; a value of DATA with its repeat.
pub data NodeOf : Type 0 where
  Itself : Statement → NodeOf
  Target : List ℕ → Trees → NodeOf
  Part : Tree → NodeOf
  Named : List ℕ → NodeOf
  Declared : DeclFields → NodeOf
  Labelled : ℕ → NodeOf
  Initial : Value → NodeOf

-- the expressions that an expression consists of, itself first; and those of a list
abbrev mutual
  pub parts : Tree → List Tree
  parts (Tree.Number n) = Tree.Number n ∷ []
  parts (Tree.Truth b) = Tree.Truth b ∷ []
  parts (Tree.Reference name items) = Tree.Reference name items ∷ all_parts items
  parts (Tree.Call f items) = Tree.Call f items ∷ all_parts items
  parts (Tree.Signed sign t) = Tree.Signed sign t ∷ parts t
  parts (Tree.Not t) = Tree.Not t ∷ parts t
  parts (Tree.Binary op a b) = Tree.Binary op a b ∷ (parts a ++ parts b)
  parts (Tree.ZeroPush t) = Tree.ZeroPush t ∷ parts t

  pub all_parts : Trees → List Tree
  all_parts Trees.None = []
  all_parts (Trees.Then t ts) = parts t ++ all_parts ts

-- the nodes of an expression: one for itself and one for each of its parts, in preorder
abbrev pub tree_nodes : Tree → List NodeOf
tree_nodes t = map NodeOf.Part (parts t)

-- the nodes of an expression, if there is one
abbrev pub value_nodes : Option Tree → List NodeOf
value_nodes None = []
value_nodes (Some t) = tree_nodes t

-- the nodes of a group of DATA: its names, then its values
abbrev pub group_nodes : GroupFields → List NodeOf
group_nodes g = map NodeOf.Named g.names ++ map NodeOf.Initial g.values

-- the nodes of a reference that is assigned to: itself, then the parts of its subscripts
abbrev pub target_nodes : List ℕ → Trees → List NodeOf
target_nodes name items = NodeOf.Target name items ∷ map NodeOf.Part (all_parts items)

-- the nodes of the three labels of an arithmetic IF
abbrev pub label_nodes : ℕ → ℕ → ℕ → List NodeOf
label_nodes l m n = NodeOf.Labelled l ∷ (NodeOf.Labelled m ∷ (NodeOf.Labelled n ∷ []))

-- the nodes of the control of a DO: the label of its terminal statement, then the DO variable
abbrev pub control_nodes : ℕ → List ℕ → List NodeOf
control_nodes label name = NodeOf.Labelled label ∷ (NodeOf.Named name ∷ [])

-- the nodes of the parameters of a DO
abbrev pub parameter_nodes : Tree → Tree → Option Tree → List NodeOf
parameter_nodes a b c = tree_nodes a ++ (tree_nodes b ++ value_nodes c)

-- Rule: what only mutants have; nodes
-- The nodes behind a statement's own: mostly its labels, then its expression. The statement inside
-- a logical IF has a node too. The unit's name, bounds and repeats have none.
abbrev pub nodes_behind : Statement → List NodeOf
nodes_behind (Statement.Subroutine name names) = map NodeOf.Named names
nodes_behind (Statement.Declare kind ds) = map NodeOf.Declared ds
nodes_behind (Statement.Dimension ds) = map NodeOf.Declared ds
nodes_behind (Statement.Preset gs) = flat_map group_nodes gs
nodes_behind (Statement.Assign name items t) = target_nodes name items ++ tree_nodes t
nodes_behind (Statement.ArithIf t l m n) = tree_nodes t ++ label_nodes l m n
nodes_behind (Statement.LogicalIf t s) = tree_nodes t ++ (NodeOf.Itself s ∷ nodes_behind s)
nodes_behind (Statement.Loop label name a b c) = control_nodes label name ++ parameter_nodes a b c
nodes_behind s = map NodeOf.Labelled (jumps_of s) ++ value_nodes (value_of s)

-- Rule: what only mutants have; nodes
-- the nodes of a statement: node 0 is the statement itself
abbrev pub nodes_of : Statement → List NodeOf
nodes_of s = NodeOf.Itself s ∷ nodes_behind s

-- the label, if the node is one
abbrev pub label_of : NodeOf → Option ℕ
label_of (NodeOf.Labelled label) = Some label
label_of _ = None

-- the name of a reference
abbrev pub tree_name : Tree → Option (List ℕ)
tree_name (Tree.Reference name items) = Some name
tree_name _ = None

-- the name that a node has, if it has one
abbrev pub node_name : NodeOf → Option (List ℕ)
node_name (NodeOf.Target name items) = Some name
node_name (NodeOf.Part t) = tree_name t
node_name (NodeOf.Named name) = Some name
node_name (NodeOf.Declared d) = Some d.name
node_name _ = None

-- the names that the nodes of a statement have, in order of appearance
abbrev pub names_of : Statement → List (List ℕ)
names_of s = filter_map node_name (nodes_of s)

-- the view of a node
abbrev pub node_of : Node → NodeOf
node_of (node.Statement s) = NodeOf.Itself (statement_of s.now)
node_of (node.Target r) =
    NodeOf.Target (reference_fields r.now).0 (trees (reference_fields r.now).1)
node_of (node.Expression e) = NodeOf.Part (tree_of e.now)
node_of (node.Name name) = NodeOf.Named name.now
node_of (node.Declared d) = NodeOf.Declared (decl_of d.now)
node_of (node.Label label) = NodeOf.Labelled label
node_of (node.Value v) = NodeOf.Initial v.now
