-- The kinds that expressions have and statements require (ANSI X3.9-1978, sections 6, 10 and 11).
use Rattle.std.specs.Prelude.{◌&&◌, Bool, true, Option, Some, None}
use Rattle.f77_tree.specs.Comparing.{same_kind}
use Rattle.f77_tree.specs.Tree.{Tree, Trees}
use Rattle.f77_tree.specs.Statement.{Statement, value_of}
use Rattle.f77_tree.specs.declared.operator.Operator.{Operator}
use Rattle.f77_tree.specs.declared.operator.Operator.TheVariants.{Equivalent, NotEquivalent, Or, And}
use Rattle.f77_tree.specs.declared.operator.Operator.TheVariants.{Add, Subtract, Multiply, Divide, Power}
use Rattle.f77_tree.specs.declared.tree.Kind.{Kind}
use Rattle.f77_tree.specs.declared.tree.Kind.TheVariants.{Integer, Logical}
use Rattle.f77_legal.specs.Names.{Symbol}

-- the kind of the result: INTEGER for arithmetic, LOGICAL for relations and logical operators
-- (section 6)
abbrev pub result_kind : Operator → Kind
result_kind Add = Integer
result_kind Subtract = Integer
result_kind Multiply = Integer
result_kind Divide = Integer
result_kind Power = Integer
result_kind _ = Logical

-- the kind of the operands: LOGICAL for logical operators, INTEGER for arithmetic and relations
-- (section 6)
abbrev pub operand_kind : Operator → Kind
operand_kind Equivalent = Logical
operand_kind NotEquivalent = Logical
operand_kind Or = Logical
operand_kind And = Logical
operand_kind _ = Integer

-- the expression is of this kind and its parts are of theirs, where names have these kinds
abbrev mutual
  pub is_of_kind : (Symbol → Kind) → Kind → Tree → Bool
  is_of_kind kinds kind (Tree.Number number) = same_kind Integer kind
  is_of_kind kinds kind (Tree.Truth truth) = same_kind Logical kind
  is_of_kind kinds kind (Tree.Reference name items) =
      same_kind (kinds name) kind && are_integer kinds items
  is_of_kind kinds kind (Tree.Call function items) =
      same_kind Integer kind && are_integer kinds items
  is_of_kind kinds kind (Tree.Signed sign tree) =
      same_kind Integer kind && is_of_kind kinds Integer tree
  is_of_kind kinds kind (Tree.Not tree) = same_kind Logical kind && is_of_kind kinds Logical tree
  is_of_kind kinds kind (Tree.Binary operator left right) =
      same_kind (result_kind operator) kind && (is_of_kind kinds (operand_kind operator) left
      && is_of_kind kinds (operand_kind operator) right)
  is_of_kind kinds kind (Tree.ZeroPush tree) =
      same_kind Integer kind && is_of_kind kinds Integer tree

  pub are_integer : (Symbol → Kind) → Trees → Bool
  are_integer kinds Trees.None = true
  are_integer kinds (Trees.Then tree trees) =
      is_of_kind kinds Integer tree && are_integer kinds trees

-- the expression is of this kind, if there is one (section 6)
abbrev pub is_of_kind_if_given : (Symbol → Kind) → Kind → Option Tree → Bool
is_of_kind_if_given kinds kind None = true
is_of_kind_if_given kinds kind (Some tree) = is_of_kind kinds kind tree

-- Rule: C4, C5 (5, 6, 10, 11, 15.10)
-- the kinds of a statement agree: the value has the kind of its target, conditions are LOGICAL, and
-- other expressions and DO variables are INTEGER (sections 10 and 11)
abbrev pub kinds_agree : (Symbol → Kind) → Statement → Bool
kinds_agree kinds (Statement.Assign name items tree) =
    are_integer kinds items && is_of_kind kinds (kinds name) tree
kinds_agree kinds (Statement.LogicalIf tree statement) =
    is_of_kind kinds Logical tree && kinds_agree kinds statement
kinds_agree kinds (Statement.BlockIf tree) = is_of_kind kinds Logical tree
kinds_agree kinds (Statement.ElseIf tree) = is_of_kind kinds Logical tree
kinds_agree kinds (Statement.Loop label name first last step) =
    same_kind (kinds name) Integer && (is_of_kind kinds Integer first
    && (is_of_kind kinds Integer last && is_of_kind_if_given kinds Integer step))
kinds_agree kinds statement = is_of_kind_if_given kinds Integer (value_of statement)
