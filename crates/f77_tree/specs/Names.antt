-- The limit on the names of a statement: each has at most six characters.
use Rattle.std.specs.Prelude.{List, Bool, true, ◌&&◌, Option, Some, None}
use Rattle.std.specs.List.{list_all}
use Rattle.f77_tree.specs.Name.{is_short}
use Rattle.f77_tree.specs.Tree.{Tree, Trees, DeclFields, GroupFields}
use Rattle.f77_tree.specs.Statement.{Statement, value_of}

abbrev mutual
  pub short_names : Tree → Bool
  short_names (Tree.Number n) = true
  short_names (Tree.Truth b) = true
  short_names (Tree.Reference name items) = is_short name && all_short_names items
  short_names (Tree.Call f items) = all_short_names items
  short_names (Tree.Signed sign t) = short_names t
  short_names (Tree.Not t) = short_names t
  short_names (Tree.Binary op a b) = short_names a && short_names b
  short_names (Tree.ZeroPush t) = short_names t

  pub all_short_names : Trees → Bool
  all_short_names Trees.None = true
  all_short_names (Trees.Then t ts) = short_names t && all_short_names ts

-- a test of an expression; where there is none, it holds
abbrev pub of_value : (Tree → Bool) → Option Tree → Bool
of_value p None = true
of_value p (Some t) = p t

-- a declared name has at most six characters
abbrev pub decl_name : DeclFields → Bool
decl_name d = is_short d.name

-- each of these declared names has at most six characters
abbrev pub declaration_names : List DeclFields → Bool
declaration_names ds = list_all decl_name ds

-- each name of a group of DATA has at most six characters
abbrev pub has_short_group_names : GroupFields → Bool
has_short_group_names g = list_all is_short g.names

-- each name of these groups of DATA has at most six characters
abbrev pub data_names : List GroupFields → Bool
data_names gs = list_all has_short_group_names gs

-- Rule: sizes of names and numbers (2.2)
-- each name of the statement has at most six characters (ANSI X3.9-1978, 2.2)
abbrev pub statement_names : Statement → Bool
statement_names (Statement.Subroutine name names) = is_short name && list_all is_short names
statement_names (Statement.Declare kind ds) = declaration_names ds
statement_names (Statement.Dimension ds) = declaration_names ds
statement_names (Statement.Preset gs) = data_names gs
statement_names (Statement.Assign name items t) =
    is_short name && (all_short_names items && short_names t)
statement_names (Statement.LogicalIf t s) = short_names t && statement_names s
statement_names (Statement.Loop label name a b c) =
    is_short name && (short_names a && (short_names b && of_value short_names c))
statement_names s = of_value short_names (value_of s)
