-- What is kept of a statement, and what a function that reads one returns.
use Rattle.std.specs.Prelude.{◌≡◌, ℕ, List, Option, option_map, Vec, map}
use Rattle.std.specs.Borrow.{Bor}
use Rattle.std.specs.declared.alloc.Global.{Global}
use Rattle.f77_tree.specs.declared.tree.Expr.{Expr}
use Rattle.f77_tree.specs.declared.tree.Ref.{Ref}
use Rattle.f77_tree.specs.declared.statement.Stmt.{Stmt}
use Rattle.f77_tree.specs.Name.{cut}
use Rattle.f77_tree.specs.Statement.{Statement, Change, changed_by, statement_of}
use Rattle.f77_tree.specs.Tree.{Tree, Trees}
use Rattle.f77_tree.specs.View.{trees, tree_of, reference_fields}
use Rattle.f77_syntax.specs.code.View.{clip, clip_all}
use Rattle.f77_syntax.specs.code.Declaration.{clip_decl}
use Rattle.f77_syntax.specs.code.Data.{clip_group}

-- a statement as the code keeps it: names cut, constants clipped
abbrev pub clipping : Change
clipping = record {
  name = cut;
  names = map cut;
  declared = map clip_decl;
  groups = map clip_group;
  items = clip_all;
  tree = clip;
  label = λ label. label;
  labels = λ labels. labels;
}

abbrev pub clip_statement : Statement → Statement
clip_statement = changed_by clipping

abbrev pub IsStatement : Stmt → Statement → Type 0
IsStatement x a = statement_of x ≡ clip_statement a

-- a reference and the text behind it
abbrev pub IsReference : Ref × Bor (List ℕ) → List ℕ × Trees × List ℕ → Type 0
IsReference x a =
    ((reference_fields x.0).0 ≡ cut a.0) × (trees (reference_fields x.0).1 ≡ clip_all a.1) × (x.1.now ≡ a.2)

-- labels and the text behind them
abbrev pub AreLabels : Vec ℕ Global × Bor (List ℕ) → List ℕ × List ℕ → Type 0
AreLabels x a = (x.0.items ≡ a.0) × (x.1.now ≡ a.1)

-- the label of a DO, the name of its DO variable, and the text behind the equals sign
abbrev pub IsControl : ℕ × Bor (List ℕ) × Bor (List ℕ) → ℕ × List ℕ × List ℕ → Type 0
IsControl x a = (x.0 ≡ a.0) × (x.1.now ≡ a.1) × (x.2.now ≡ a.2)

abbrev pub IsIncrementationRead : Option Expr → Option Tree → Type 0
IsIncrementationRead x a = option_map tree_of x ≡ option_map clip a
