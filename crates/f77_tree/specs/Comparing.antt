-- Which expressions and parts of declarations are the same: those of one form whose parts are the
-- same.
use Rattle.std.specs.Prelude.{ℕ, ◌==◌, nat_eq, List, Bool, true, false, ◌&&◌}
use Rattle.std.specs.Bool.{beq}
use Rattle.std.specs.Cmp.Lexicographic.{pointwise}
use Rattle.std.specs.Ordering.{int_eq}
use Rattle.std.specs.Str.{bytes_eq}
use Rattle.f77_tree.specs.declared.data.Constant.{Constant}
use Rattle.f77_tree.specs.declared.data.Constant.TheVariants.{Number, Truth}
use Rattle.f77_tree.specs.declared.data.Value.{Value}
use Rattle.f77_tree.specs.declared.intrinsic.Intrinsic.{Intrinsic}
use Rattle.f77_tree.specs.declared.operator.Operator.{Operator}
use Rattle.f77_tree.specs.declared.operator.Sign.{Sign}
use Rattle.f77_tree.specs.declared.operator.Sign.TheVariants.{Plus, Minus}
use Rattle.f77_tree.specs.declared.tree.Kind.{Kind}
use Rattle.f77_tree.specs.declared.tree.Kind.TheVariants.{Integer, Logical}
use Rattle.f77_tree.specs.Intrinsic.{function_name}
use Rattle.f77_tree.specs.Operator.{symbol}
use Rattle.f77_tree.specs.Tree.{Tree, Trees, DeclFields, GroupFields}
use Rattle.f77_tree.specs.View.{trees}

abbrev pub same_kind : Kind → Kind → Bool
same_kind Integer Integer = true
same_kind Logical Logical = true
same_kind _ _ = false

abbrev pub same_sign : Sign → Sign → Bool
same_sign Plus Plus = true
same_sign Minus Minus = true
same_sign _ _ = false

abbrev pub same_function : Intrinsic → Intrinsic → Bool
same_function f g = bytes_eq (function_name f) (function_name g)

abbrev pub same_operator : Operator → Operator → Bool
same_operator operator other = bytes_eq (symbol operator) (symbol other)

abbrev pub same_constant : Constant → Constant → Bool
same_constant (Number z) (Number w) = int_eq z w
same_constant (Truth a) (Truth b) = beq a b
same_constant _ _ = false

abbrev pub same_value : Value → Value → Bool
same_value v w = v.times == w.times && same_constant v.constant w.constant

abbrev mutual
  pub same_tree : Tree → Tree → Bool
  same_tree (Tree.Number n) (Tree.Number m) = n == m
  same_tree (Tree.Truth a) (Tree.Truth b) = beq a b
  same_tree (Tree.Reference name items) (Tree.Reference other others) =
      bytes_eq name other && same_trees items others
  same_tree (Tree.Call f items) (Tree.Call g others) = same_function f g && same_trees items others
  same_tree (Tree.Signed sign t) (Tree.Signed other u) = same_sign sign other && same_tree t u
  same_tree (Tree.Not t) (Tree.Not u) = same_tree t u
  same_tree (Tree.Binary op a b) (Tree.Binary other c d) =
      same_operator op other && (same_tree a c && same_tree b d)
  same_tree (Tree.ZeroPush t) (Tree.ZeroPush u) = same_tree t u
  same_tree _ _ = false

  pub same_trees : Trees → Trees → Bool
  same_trees Trees.None Trees.None = true
  same_trees (Trees.Then t ts) (Trees.Then u us) = same_tree t u && same_trees ts us
  same_trees _ _ = false

-- two names are the same, and so are their subscripts
abbrev pub same_place : List ℕ × List Tree → List ℕ × List Tree → Bool
same_place p q = bytes_eq p.0 q.0 && same_trees (trees p.1) (trees q.1)

-- two declared names have the same name and the same bounds
abbrev pub same_decl : DeclFields → DeclFields → Bool
same_decl d e = bytes_eq d.name e.name && pointwise nat_eq d.bounds e.bounds

-- two groups of DATA have the same names and the same values
abbrev pub same_group : GroupFields → GroupFields → Bool
same_group g h = pointwise bytes_eq g.names h.names && pointwise same_value g.values h.values
