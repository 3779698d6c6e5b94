-- Terms stand for expressions when their operands do.
use Rattle.f77_code.proofs.Common.{◌≡◌, ◌∙◌, sym, subst, Number, Plan, BeginsPlan, GrowsPlan, IsNumberTerm, ArePair, Constants, Term}
use Rattle.f77_code.specs.declared.term.Pair.{Pair}

-- a plan that begins with the later table begins with the earlier one
pub begins_before : (t u : Constants) (plan : Plan) → GrowsPlan t u → BeginsPlan plan u → BeginsPlan plan t
begins_before t u plan g b = record { slots = b.slots ∙ g.slots; values = λ k z at. b.values k z (g.values k z at) }

pub number_later : (t u : Constants) (x : Number) (l : Term) → GrowsPlan t u → IsNumberTerm t x l → IsNumberTerm u x l
number_later t u x l g h = record { stands = λ plan b has. h.stands plan (begins_before t u plan g b) has }

-- two expressions, the second compiled behind the first
pub pair_stands : (t u : Constants) (x y : Number) (l r : Term) (pair : Pair) → GrowsPlan t u → IsNumberTerm t x l → IsNumberTerm u y r → pair.left ≡ l → pair.right ≡ r
    → ArePair u x y pair
pair_stands t u x y l r pair g h k left right =
    record { left = subst (IsNumberTerm u x) (sym left) (number_later t u x l g h); right = subst (IsNumberTerm u y) (sym right) k }
