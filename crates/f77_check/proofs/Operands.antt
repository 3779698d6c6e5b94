-- The kinds of operands, by the operator between them.
use Rattle.f77_check.proofs.Common.{◌≡◌, refl, Some, relation_of, arithmetic_of, connective_of, Arithmetic, operand_kind, Operator, Integer, Logical}
use Rattle.f77_tree.specs.declared.operator.Operator.TheVariants.{Equivalent, NotEquivalent, Or, And, Less, LessOrEqual, Equal, NotEqual, GreaterOrEqual}
use Rattle.f77_tree.specs.declared.operator.Operator.TheVariants.{Greater}
use Rattle.f77_actions.specs.declared.expression.Relation.{Relation}
use Rattle.f77_actions.specs.declared.expression.Connective.{Connective}

pub arithmetic_takes : (op : Operator) (o : Arithmetic) → arithmetic_of op ≡ Some o → operand_kind op ≡ Integer
arithmetic_takes Equivalent o e = absurd (cc (e))
arithmetic_takes NotEquivalent o e = absurd (cc (e))
arithmetic_takes Or o e = absurd (cc (e))
arithmetic_takes And o e = absurd (cc (e))
arithmetic_takes _ o e = refl

pub relation_takes : (op : Operator) (o : Relation) → relation_of op ≡ Some o → operand_kind op ≡ Integer
relation_takes Less o e = refl
relation_takes LessOrEqual o e = refl
relation_takes Equal o e = refl
relation_takes NotEqual o e = refl
relation_takes GreaterOrEqual o e = refl
relation_takes Greater o e = refl
relation_takes _ o e = absurd (cc (e))

pub connective_takes : (op : Operator) (o : Connective) → connective_of op ≡ Some o → operand_kind op ≡ Logical
connective_takes Equivalent o e = refl
connective_takes NotEquivalent o e = refl
connective_takes Or o e = refl
connective_takes And o e = refl
connective_takes _ o e = absurd (cc (e))
