-- The view of an expression: its tree.
use Rattle.std.specs.Prelude.{ℕ, List, [], ◌∷◌}
use Rattle.f77_tree.specs.declared.tree.Expr.{Expr}
use Rattle.f77_tree.specs.declared.tree.Ref.{Ref}
use Rattle.f77_tree.specs.declared.tree.Expr.TheOpen.{Expr-F, Ref-F}
use Rattle.f77_tree.specs.declared.tree.Expr.TheFolds.{fold-Expr, fold-Ref}
use Rattle.f77_tree.specs.Tree.{Tree, Trees}

-- a list of expressions, as subscripts or arguments
abbrev pub trees : List Tree → Trees
trees [] = Trees.None
trees (t ∷ ts) = Trees.Then t (trees ts)

abbrev pub expr_step : Expr-F Tree (List ℕ × List Tree) → Tree
expr_step (Expr-F.Number n) = Tree.Number n
expr_step (Expr-F.Truth b) = Tree.Truth b
expr_step (Expr-F.Reference r) = Tree.Reference r.0 (trees r.1)
expr_step (Expr-F.Call f items) = Tree.Call f (trees items.items)
expr_step (Expr-F.Signed s t) = Tree.Signed s t.value
expr_step (Expr-F.Not t) = Tree.Not t.value
expr_step (Expr-F.Binary op a b) = Tree.Binary op a.value b.value
expr_step (Expr-F.ZeroPush t) = Tree.ZeroPush t.value

abbrev pub ref_step : Ref-F Tree (List ℕ × List Tree) → List ℕ × List Tree
ref_step r = (r.name, r.subscripts.items)

-- the view of an expression
abbrev pub tree_of : Expr → Tree
tree_of = fold-Expr Tree (List ℕ × List Tree) expr_step ref_step

-- the view of a reference: its name and its subscripts
abbrev pub reference_fields : Ref → List ℕ × List Tree
reference_fields = fold-Ref Tree (List ℕ × List Tree) expr_step ref_step
