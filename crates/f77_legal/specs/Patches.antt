-- Stocks of names, and tests of each name of an expression and of a statement.
use Rattle.std.specs.Prelude.{◌≡◌, ◌≤◌, ◌&&◌, Bool, true, false, List}
use Rattle.std.specs.Prelude.{length, map, filter, Option, Some, None}
use Rattle.std.specs.List.{All, list_any, sum}
use Rattle.std.specs.Str.{bytes_eq}
use Rattle.f77_program.specs.Program.{LineFields}
use Rattle.f77_tree.specs.Tree.{Tree, Trees}
use Rattle.f77_tree.specs.Statement.{Statement, value_of}
use Rattle.f77_legal.specs.Legal.{is_array}
use Rattle.f77_legal.specs.Names.{Symbol, symbols, is_real, is_twice}
use Rattle.f77_legal.specs.InitialValues.{element_count}

-- the name is one of these
abbrev pub is_name_among : List Symbol → Symbol → Bool
is_name_among names name = list_any (bytes_eq name) names

-- A stock of names for a program: it has the names of the program, each once, none is REAL or
-- declared twice, and all together are within the limits.
pub record IsStock (names : List Symbol) (program : List LineFields) : Type 0 where
  pub covers : All (λ name. is_name_among names name ≡ true) (symbols program)
  pub once : All (λ name. length (filter (bytes_eq name) names) ≡ 1) names
  pub typed : All (λ name. is_real program name ≡ false) names
  pub declared : All (λ name. is_twice program name ≡ false) names
  pub few : length names ≤ 100
  pub small : sum (map (element_count program) (filter (is_array program) names)) ≤ 10000

-- each name of an expression passes the test
abbrev mutual
  pub tree_passes : (Symbol → Bool) → Tree → Bool
  tree_passes test (Tree.Number number) = true
  tree_passes test (Tree.Truth truth) = true
  tree_passes test (Tree.Reference name items) = test name && items_pass test items
  tree_passes test (Tree.Call function items) = items_pass test items
  tree_passes test (Tree.Signed sign tree) = tree_passes test tree
  tree_passes test (Tree.Not tree) = tree_passes test tree
  tree_passes test (Tree.Binary operator left right) =
      tree_passes test left && tree_passes test right
  tree_passes test (Tree.ZeroPush tree) = tree_passes test tree

  pub items_pass : (Symbol → Bool) → Trees → Bool
  items_pass test Trees.None = true
  items_pass test (Trees.Then tree trees) = tree_passes test tree && items_pass test trees

-- each name of the expression passes the test, if there is an expression
abbrev pub value_passes : (Symbol → Bool) → Option Tree → Bool
value_passes test None = true
value_passes test (Some tree) = tree_passes test tree

-- each name of an executable statement passes the test
abbrev pub names_pass : (Symbol → Bool) → Statement → Bool
names_pass test (Statement.Assign name items tree) =
    test name && (items_pass test items && tree_passes test tree)
names_pass test (Statement.LogicalIf tree statement) =
    tree_passes test tree && names_pass test statement
names_pass test (Statement.Loop label name first last step) =
    test name && (tree_passes test first && (tree_passes test last && value_passes test step))
names_pass test statement = value_passes test (value_of statement)
