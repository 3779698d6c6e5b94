-- Expressions and the parts of declarations as trees, without the memory in which they lie.
-- Parentheses leave no trace.
use Rattle.std.specs.Prelude.{ℕ, List, Bool}
use Rattle.f77_tree.specs.declared.intrinsic.Intrinsic.{Intrinsic}
use Rattle.f77_tree.specs.declared.operator.Operator.{Operator}
use Rattle.f77_tree.specs.declared.operator.Sign.{Sign}
use Rattle.f77_tree.specs.declared.data.Value.{Value}

mutual
  pub data Tree : Type 0 where
    Number : ℕ → Tree
    Truth : Bool → Tree
    Reference : List ℕ → Trees → Tree
    Call : Intrinsic → Trees → Tree
    Signed : Sign → Tree → Tree
    Not : Tree → Tree
    Binary : Operator → Tree → Tree → Tree
    ZeroPush : Tree → Tree

  -- a list of expressions: subscripts or arguments
  pub data Trees : Type 0 where
    None : Trees
    Then : Tree → Trees → Trees

-- a declared name, with the upper bounds of its dimensions in order
pub record DeclFields : Type 0 where
  pub name : List ℕ
  pub bounds : List ℕ

-- names, and the values that they get, in order
pub record GroupFields : Type 0 where
  pub names : List (List ℕ)
  pub values : List Value
