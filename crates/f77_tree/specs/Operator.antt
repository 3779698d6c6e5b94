-- The operators: their texts, their levels, and the levels of their operands.
use Rattle.std.specs.Prelude.{ℕ, suc, Bool, true, false, if◌then◌else◌, List, codes}
use Rattle.f77_tree.specs.declared.operator.Operator.{Operator}
use Rattle.f77_tree.specs.declared.operator.Operator.TheVariants.{Equivalent, NotEquivalent, Or, And, Less}
use Rattle.f77_tree.specs.declared.operator.Operator.TheVariants.{LessOrEqual, Equal, NotEqual, GreaterOrEqual}
use Rattle.f77_tree.specs.declared.operator.Operator.TheVariants.{Greater, Add, Subtract, Multiply, Divide, Power}
use Rattle.f77_tree.specs.declared.operator.Sign.{Sign}
use Rattle.f77_tree.specs.declared.operator.Sign.TheVariants.{Plus, Minus}

-- the text of an operator, as it stands between its operands (ANSI X3.9-1978, section 6)
abbrev pub symbol : Operator → List ℕ
symbol Equivalent = codes ".EQV."
symbol NotEquivalent = codes ".NEQV."
symbol Or = codes ".OR."
symbol And = codes ".AND."
symbol Less = codes ".LT."
symbol LessOrEqual = codes ".LE."
symbol Equal = codes ".EQ."
symbol NotEqual = codes ".NE."
symbol GreaterOrEqual = codes ".GE."
symbol Greater = codes ".GT."
symbol Add = codes "+"
symbol Subtract = codes "-"
symbol Multiply = codes "*"
symbol Divide = codes "/"
symbol Power = codes "**"

-- the character of a sign, + or - (ANSI X3.9-1978, section 6)
abbrev pub sign_symbol : Sign → ℕ
sign_symbol Plus = 43
sign_symbol Minus = 45

-- Rule: expressions, levels, functions (5, 6, 15.10)
-- the level of an expression with this operator, loosest first (ANSI X3.9-1978, section 6)
abbrev pub level : Operator → ℕ
level Equivalent = 1
level NotEquivalent = 1
level Or = 2
level And = 3
level Less = 5
level LessOrEqual = 5
level Equal = 5
level NotEqual = 5
level GreaterOrEqual = 5
level Greater = 5
level Add = 6
level Subtract = 6
level Multiply = 7
level Divide = 7
level Power = 8

-- a relational operator
abbrev pub is_relation : Operator → Bool
is_relation Less = true
is_relation LessOrEqual = true
is_relation Equal = true
is_relation NotEqual = true
is_relation GreaterOrEqual = true
is_relation Greater = true
is_relation _ = false

-- Rule: expressions, levels, functions (5, 6, 15.10)
-- the lowest level of a left operand: the operator's own, but the next one for a relation and for a
-- power (ANSI X3.9-1978, section 6)
abbrev pub left_level : Operator → ℕ
left_level Power = suc (level Power)
left_level operator = if is_relation operator then suc (level operator) else level operator

-- Rule: expressions, levels, functions (5, 6, 15.10)
-- the lowest level of a right operand: the next one, but its own for a power (ANSI X3.9-1978,
-- section 6)
abbrev pub right_level : Operator → ℕ
right_level Power = level Power
right_level operator = suc (level operator)
