-- Which expressions a resolver can look up.
use Rattle.std.specs.Prelude.{◌≡◌, ◌≤◌, ℕ, true, List, length}
use Rattle.indexmap.specs.IndexMap.{keys}
use Rattle.f77_tree.specs.Tree.{Tree}
use Rattle.f77_tree.specs.declared.tree.Kind.{Kind}
use Rattle.f77_legal.specs.Dimensions.{fits_bounds}
use Rattle.f77_check.specs.code.Kept.{tree_kept}
use Rattle.f77_legal.specs.Kinds.{is_of_kind}
use Rattle.f77_legal.specs.NameTable.{kind_at, array_bounds}
use Rattle.f77_legal.specs.Names.{Symbol}
use Rattle.f77_check.specs.SlotTable.{IsSlotTable}
use Rattle.f77_legal.specs.declared.names.Names.{Names}
use Rattle.f77_check.specs.declared.resolve.Resolver.{Resolver}

-- no name has more than two dimensions
abbrev pub AreFlat : Names → Type 0
AreFlat names = (name : Symbol) → length (array_bounds names name) ≤ 2

-- the slots are those of the names, and no name has more than two dimensions
pub record ServesNames (resolver : Resolver) : Type 0 where
  pub table : IsSlotTable resolver.slots resolver.tables.names
  pub flat : AreFlat resolver.tables.names

-- What is needed to look up an expression: it is of this kind, and each name of it is in the table and has as many
-- subscripts as dimensions.
pub record IsReadyTree (resolver : Resolver) (kind : Kind) (tree : Tree) : Type 0 where
  pub names : ServesNames resolver
  pub kinds : is_of_kind (kind_at resolver.tables.names) kind tree ≡ true
  pub bounds : fits_bounds (array_bounds resolver.tables.names) tree ≡ true
  pub kept : tree_kept resolver.tables.names tree ≡ true

-- a definition over bounds and a list of names, taken for those of the tables
abbrev pub by_tables {ℓ} : {A : Type ℓ} → Resolver → ((Symbol → List ℕ) → List Symbol → A) → A
by_tables resolver said = said (array_bounds resolver.tables.names) (keys resolver.tables.names.facts)
