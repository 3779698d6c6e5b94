-- What is kept of an expression, and what a function that reads one returns.
use Rattle.std.specs.Prelude.{◌≡◌, ℕ, List, min, Result, Ok, Err, Option, Some, None, Vec, map}
use Rattle.std.specs.Borrow.{Bor}
use Rattle.std.specs.declared.alloc.Global.{Global}
use Rattle.f77_syntax.specs.declared.fault.ReadError.{ReadError}
use Rattle.f77_syntax.specs.declared.fault.ReadError.TheVariants.{Memory, Unknown}
use Rattle.f77_tree.specs.declared.tree.Expr.{Expr}
use Rattle.f77_tree.specs.Name.{cut}
use Rattle.f77_tree.specs.Tree.{Tree, Trees}
use Rattle.f77_tree.specs.View.{tree_of, trees}

-- a constant as the code keeps it: 2147483648 for each that is larger
abbrev pub clipped : ℕ → ℕ
clipped n = min n 2147483648

-- an expression as the code keeps it
abbrev mutual
  pub clip : Tree → Tree
  clip (Tree.Number n) = Tree.Number (clipped n)
  clip (Tree.Truth b) = Tree.Truth b
  clip (Tree.Reference name items) = Tree.Reference (cut name) (clip_all items)
  clip (Tree.Call f items) = Tree.Call f (clip_all items)
  clip (Tree.Signed sign t) = Tree.Signed sign (clip t)
  clip (Tree.Not t) = Tree.Not (clip t)
  clip (Tree.Binary op a b) = Tree.Binary op (clip a) (clip b)
  clip (Tree.ZeroPush t) = Tree.ZeroPush (clip t)

  pub clip_all : Trees → Trees
  clip_all Trees.None = Trees.None
  clip_all (Trees.Then t ts) = Trees.Then (clip t) (clip_all ts)

-- a function that fails: memory ran out, or reading gives nothing
abbrev pub Fails : {A : Type 0} → ReadError → Option A → Type 0
Fails Memory read = Unit {0}
Fails Unknown read = read ≡ None

abbrev pub Gives : {X A : Type 0} → (X → A → Type 0) → Result X ReadError → Option A → Type 0
Gives {A = A} Is (Ok x) read = (a : A) × (read ≡ Some a) × Is x a
Gives Is (Err e) read = Fails e read

-- an expression and the text behind it
abbrev pub IsTree : Expr × Bor (List ℕ) → Tree × List ℕ → Type 0
IsTree x a = (tree_of x.0 ≡ clip a.0) × (x.1.now ≡ a.1)

-- an expression, its level and the text behind it
abbrev pub IsTreeStart : Expr × ℕ × Bor (List ℕ) → Tree × ℕ × List ℕ → Type 0
IsTreeStart x a = (tree_of x.0 ≡ clip a.0) × (x.1 ≡ a.1) × (x.2.now ≡ a.2)

abbrev pub IsTreeList : Vec Expr Global × Bor (List ℕ) → Trees × List ℕ → Type 0
IsTreeList x a = (trees (map tree_of x.0.items) ≡ clip_all a.0) × (x.1.now ≡ a.1)
