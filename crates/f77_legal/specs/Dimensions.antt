-- Bounds, subscripts and arguments (ANSI X3.9-1978, section 5 and 15.10).
use Rattle.std.specs.Prelude.{ℕ, zero, suc, ◌==◌, ◌&&◌, Bool, true, nat_le, List, length, Option, Some, None}
use Rattle.std.specs.List.{list_all}
use Rattle.f77_tree.specs.Tree.{Tree, Trees, DeclFields}
use Rattle.f77_tree.specs.Statement.{Statement, value_of}
use Rattle.f77_tree.specs.declared.intrinsic.Intrinsic.{Intrinsic}
use Rattle.f77_tree.specs.declared.intrinsic.Intrinsic.TheVariants.{Mod, Iabs, Min0, Max0}
use Rattle.f77_legal.specs.Names.{Symbol}

abbrev pub tree_count : Trees → ℕ
tree_count Trees.None = zero
tree_count (Trees.Then tree trees) = suc (tree_count trees)

-- the function takes so many arguments (15.10)
abbrev pub takes : Intrinsic → ℕ → Bool
takes Mod given = given == 2
takes Iabs given = given == 1
takes Min0 given = nat_le 2 given
takes Max0 given = nat_le 2 given

-- in the expression each array has as many subscripts as bounds, and each variable has none
abbrev mutual
  pub fits_bounds : (Symbol → List ℕ) → Tree → Bool
  fits_bounds bounds (Tree.Number number) = true
  fits_bounds bounds (Tree.Truth truth) = true
  fits_bounds bounds (Tree.Reference name items) =
      (tree_count items == length (bounds name)) && all_fit bounds items
  fits_bounds bounds (Tree.Call function items) =
      takes function (tree_count items) && all_fit bounds items
  fits_bounds bounds (Tree.Signed sign tree) = fits_bounds bounds tree
  fits_bounds bounds (Tree.Not tree) = fits_bounds bounds tree
  fits_bounds bounds (Tree.Binary operator left right) =
      fits_bounds bounds left && fits_bounds bounds right
  fits_bounds bounds (Tree.ZeroPush tree) = fits_bounds bounds tree

  pub all_fit : (Symbol → List ℕ) → Trees → Bool
  all_fit bounds Trees.None = true
  all_fit bounds (Trees.Then tree trees) = fits_bounds bounds tree && all_fit bounds trees

-- the subscripts of the expression fit, if there is one (section 5 and 15.10)
abbrev pub value_fits : (Symbol → List ℕ) → Option Tree → Bool
value_fits bounds None = true
value_fits bounds (Some tree) = fits_bounds bounds tree

-- the declaration gives no bounds, or one or two that are at least 1 (section 5)
abbrev pub is_shape : DeclFields → Bool
is_shape declaration =
    nat_le (length declaration.bounds) 2 && list_all (nat_le 1) declaration.bounds

-- Rule: C4, C5 (5, 6, 10, 11, 15.10)
-- the bounds, subscripts and arguments of a statement are right; a DO variable is no array (section
-- 5)
abbrev pub dimensions_fit : (Symbol → List ℕ) → Statement → Bool
dimensions_fit bounds (Statement.Declare kind declarations) = list_all is_shape declarations
dimensions_fit bounds (Statement.Dimension declarations) = list_all is_shape declarations
dimensions_fit bounds (Statement.Assign name items tree) =
    (tree_count items == length (bounds name)) && (all_fit bounds items && fits_bounds bounds tree)
dimensions_fit bounds (Statement.LogicalIf tree statement) =
    fits_bounds bounds tree && dimensions_fit bounds statement
dimensions_fit bounds (Statement.Loop label name first last step) =
    (length (bounds name) == 0)
    && (fits_bounds bounds first && (fits_bounds bounds last && value_fits bounds step))
dimensions_fit bounds statement = value_fits bounds (value_of statement)
