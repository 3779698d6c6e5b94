-- Terms stand for LOGICAL expressions when their operands do.
use Rattle.f77_code.proofs.Common.{◌≡◌, subst, Condition, Number, Relation, Plan, IsTerm, IsTest, GrowsPlan, IsNumberTerm, IsTestTerm, IsRelationOf, Constants}
use Rattle.f77_code.proofs.Common.{Term, Compared, Related'}
use Rattle.f77_actions.specs.declared.expression.Condition as condition
use Rattle.f77_code.proofs.Terms.{begins_before}

relation_stands : (plan : Plan) (op : Relation) (x y : Number) (l r : Term) (t : Term) → IsRelationOf op l r t → IsTerm plan x l → IsTerm plan y r
    → IsTest plan (condition.Related op x y) t
relation_stands plan op x y l r (Compared o i j) h left right = (h.0, subst (IsTerm plan x) h.1 left, subst (IsTerm plan y) h.2 right)
relation_stands plan op x y l r (Related' o p i j) h left right = (h.0, subst (IsTerm plan x) h.1 left, subst (IsTerm plan y) h.2 right)
relation_stands plan op x y l r _ h left right = absurd h

pub related_test : (t u : Constants) (e : Condition) (op : Relation) (x y : Number) (l r : Term) (made : Term) → e ≡ condition.Related op x y → GrowsPlan t u
    → IsNumberTerm t x l → IsNumberTerm u y r → IsRelationOf op l r made → IsTestTerm u e made
related_test t u e op x y l r made is g h k c =
    rw is (record {
      tests = λ plan b has.
          relation_stands plan op x y l r made c (h.stands plan (begins_before t u plan g b) has.0) (k.stands plan b has.1);
    })
