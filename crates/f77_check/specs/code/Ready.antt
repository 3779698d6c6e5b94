-- What the tables need, so that the names and labels of a legal program can be looked up.
-- Private functions and proofs alone cite what stands here.
use Rattle.std.specs.Prelude.{◌≡◌, ⊤, ℕ, true, List, [], ◌∷◌, Some, IsSome}
use Rattle.f77_program.specs.Formed.{is_action}
use Rattle.f77_program.specs.Program.{LineFields}
use Rattle.f77_tree.specs.Tree.{Tree, Trees}
use Rattle.f77_tree.specs.Statement.{Statement}
use Rattle.f77_check.specs.Action.{IsAction, IsAssignment}
use Rattle.f77_legal.specs.Blocks.{branch_end}
use Rattle.f77_legal.specs.BlockTable.{branch_end_at}
use Rattle.f77_legal.specs.Dimensions.{dimensions_fit}
use Rattle.f77_check.specs.code.Kept.{names_kept}
use Rattle.f77_legal.specs.Kinds.{kinds_agree}
use Rattle.f77_legal.specs.Labels.{label_place}
use Rattle.f77_legal.specs.Loops.{terminal}
use Rattle.f77_check.specs.code.Lookup.{ServesNames, by_tables}
use Rattle.f77_legal.specs.NameTable.{array_bounds, kind_at}
use Rattle.f77_legal.specs.Names.{Symbol}
use Rattle.f77_actions.specs.declared.action.Action.{Action}
use Rattle.f77_check.specs.declared.resolve.Resolver.{Resolver}

-- the names of the statement can be looked up
pub record CanBeResolved (resolver : Resolver) (statement : Statement) : Type 0 where
  pub names : ServesNames resolver
  pub kinds : kinds_agree (kind_at resolver.tables.names) statement ≡ true
  pub bounds : dimensions_fit (array_bounds resolver.tables.names) statement ≡ true
  pub kept : names_kept resolver.tables.names statement ≡ true

-- by the tables, the action is that of the statement
abbrev pub Does : Resolver → List LineFields → ℕ → Statement → Action → Type 0
Does resolver = by_tables resolver (IsAction (kind_at resolver.tables.names))

abbrev pub ResolvesAssignment : Resolver → Symbol → Trees → Tree → Action → Type 0
ResolvesAssignment resolver = by_tables resolver (IsAssignment (kind_at resolver.tables.names))

-- each of these labels stands on a statement
abbrev pub AreFound : List LineFields → List ℕ → Type 0
AreFound program [] = ⊤
AreFound program (label ∷ labels) = IsSome (label_place program label) × AreFound program labels

-- the branch that i begins has an end
pub record HasBranch (program : List LineFields) (i : ℕ) : Type 0 where
  pub place : ℕ
  pub found : branch_end_at program i ≡ Some place
  pub ends : branch_end program i ≡ Some place

-- what statement i needs besides: the end of its DO or branch, or an action inside of it
abbrev pub HasEnd : List LineFields → ℕ → Statement → Type 0
HasEnd program i (Statement.LogicalIf tree statement) = is_action statement ≡ true
HasEnd program i (Statement.BlockIf tree) = HasBranch program i
HasEnd program i (Statement.ElseIf tree) = HasBranch program i
HasEnd program i (Statement.Loop label name first last step) = IsSome (terminal program i)
HasEnd program i _ = ⊤
