-- The operators by kind (ANSI X3.9-1978, 6.1, 6.3 and 6.4).
use Rattle.std.specs.Prelude.{Option, Some, None}
use Rattle.f77_tree.specs.declared.operator.Operator.{Operator}
use Rattle.f77_tree.specs.declared.operator.Operator.TheVariants as operator
use Rattle.f77_actions.specs.declared.expression.Arithmetic.{Arithmetic}
use Rattle.f77_actions.specs.declared.expression.Arithmetic.TheVariants as arithmetic
use Rattle.f77_actions.specs.declared.expression.Relation.{Relation}
use Rattle.f77_actions.specs.declared.expression.Relation.TheVariants as relation
use Rattle.f77_actions.specs.declared.expression.Connective.{Connective}
use Rattle.f77_actions.specs.declared.expression.Connective.TheVariants as connective

-- the operation of an arithmetic operator; other operators have none
abbrev pub arithmetic_of : Operator → Option Arithmetic
arithmetic_of operator.Add = Some arithmetic.Add
arithmetic_of operator.Subtract = Some arithmetic.Subtract
arithmetic_of operator.Multiply = Some arithmetic.Multiply
arithmetic_of operator.Divide = Some arithmetic.Divide
arithmetic_of operator.Power = Some arithmetic.Power
arithmetic_of _ = None

-- the relation of a relational operator; other operators have none
abbrev pub relation_of : Operator → Option Relation
relation_of operator.Less = Some relation.Less
relation_of operator.LessOrEqual = Some relation.LessOrEqual
relation_of operator.Equal = Some relation.Equal
relation_of operator.NotEqual = Some relation.NotEqual
relation_of operator.GreaterOrEqual = Some relation.GreaterOrEqual
relation_of operator.Greater = Some relation.Greater
relation_of _ = None

-- the connective of a logical operator; other operators have none
abbrev pub connective_of : Operator → Option Connective
connective_of operator.And = Some connective.And
connective_of operator.Or = Some connective.Or
connective_of operator.Equivalent = Some connective.Equivalent
connective_of operator.NotEquivalent = Some connective.NotEquivalent
connective_of _ = None
