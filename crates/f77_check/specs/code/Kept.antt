-- Expressions and statements whose names are all in a table.
use Rattle.std.specs.Prelude.{Bool, Option}
use Rattle.f77_tree.specs.Tree.{Tree, Trees}
use Rattle.f77_tree.specs.Statement.{Statement}
use Rattle.f77_legal.specs.NameTable.{has_name}
use Rattle.f77_legal.specs.Names.{Symbol}
use Rattle.f77_legal.specs.Patches.{tree_passes, items_pass, value_passes, names_pass}
use Rattle.f77_legal.specs.declared.names.Names.{Names}

-- the name is in the table
abbrev pub is_kept : Names → Symbol → Bool
is_kept = has_name

-- every name of the expression is in the table
abbrev pub tree_kept : Names → Tree → Bool
tree_kept names = tree_passes (is_kept names)

abbrev pub items_kept : Names → Trees → Bool
items_kept names = items_pass (is_kept names)

abbrev pub step_kept : Names → Option Tree → Bool
step_kept names = value_passes (is_kept names)

-- every name of the statement is in the table
abbrev pub names_kept : Names → Statement → Bool
names_kept names = names_pass (is_kept names)
