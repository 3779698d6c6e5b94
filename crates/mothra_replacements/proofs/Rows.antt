-- Examples of the definition `replacements`, worked out.
use Rattle.mothra_replacements.proofs.Common.{◌≡◌, map, List, refl, [], ◌∷◌, ℕ, codes, negsuc, pos, NodeOf, Statement, Tree, Trees, Operator, PoolFields}
use Rattle.mothra_replacements.proofs.Common.{ascending, is_in, next_constants, relations, replacements}
use Rattle.f77_tree.specs.declared.data.Constant.{Constant}
use Rattle.f77_tree.specs.Operator.{is_relation}
use Rattle.f77_tree.specs.declared.operator.Sign.TheVariants.{Minus}
use Rattle.f77_tree.specs.declared.tree.Kind.TheVariants.{Integer}
use Rattle.mothra_codes.specs.declared.op.Op.TheVariants.{Aar, Abs, Acr, Aor, Asr, Cnr, Crp, Csr, Glr, Rsr, Sar, Scr, Sdl, Svr}
use Rattle.f77_tree.specs.declared.operator.Operator.TheVariants as operator

abbrev i : List ℕ
i = codes "I"

abbrev j : List ℕ
j = codes "J"

abbrev k : List ℕ
k = codes "K"

abbrev m : List ℕ
m = codes "M"

abbrev n : List ℕ
n = codes "N"

abbrev variable : List ℕ → Tree
variable name = Tree.Reference name Trees.None

-- M(I) and N(1)
abbrev m_of_i : Tree
m_of_i = Tree.Reference m (Trees.Then (variable i) Trees.None)

abbrev n_of_1 : Tree
n_of_1 = Tree.Reference n (Trees.Then (Tree.Number 1) Trees.None)

abbrev pools : PoolFields
pools = record {
  kinds = λ name. Integer;
  bounds = λ name. [];
  scalars = variable i ∷ (variable j ∷ (variable k ∷ []));
  arrays = m ∷ (n ∷ []);
  references = m_of_i ∷ (n_of_1 ∷ []);
  constants = Tree.Number 1 ∷ [];
  labels = ascending (30 ∷ (10 ∷ (20 ∷ [])));
}

abbrev sum : Tree
sum = Tree.Binary operator.Add (variable i) (variable j)

aor : replacements Aor pools (NodeOf.Part sum)
    ≡ map NodeOf.Part (Tree.Binary operator.Subtract (variable i) (variable j) ∷ (Tree.Binary operator.Multiply (variable i) (variable j)
    ∷ (Tree.Binary operator.Divide (variable i) (variable j) ∷ (Tree.Binary operator.Power (variable i) (variable j) ∷ (variable i ∷ (variable j ∷ []))))))
aor = refl

svr : replacements Svr pools (NodeOf.Target k Trees.None) ≡ NodeOf.Target i Trees.None ∷ (NodeOf.Target j Trees.None ∷ [])
svr = refl

svr_loop : replacements Svr pools (NodeOf.Named i) ≡ NodeOf.Named j ∷ (NodeOf.Named k ∷ [])
svr_loop = refl

csr_target : replacements Csr pools (NodeOf.Target k Trees.None) ≡ []
csr_target = refl

crp : replacements Crp pools (NodeOf.Part (Tree.Number 0)) ≡ map NodeOf.Part (Tree.Number 1 ∷ (Tree.Signed Minus (Tree.Number 1) ∷ []))
crp = refl

crp_top : replacements Crp pools (NodeOf.Part (Tree.Number 2147483647)) ≡ map NodeOf.Part (Tree.Number 2147483646 ∷ [])
crp_top = refl

-- a constant above the largest INTEGER: no text gives a program one, but lines that a caller puts together may have it
crp_above : replacements Crp pools (NodeOf.Part (Tree.Number 2147483648)) ≡ map NodeOf.Part (Tree.Number 2147483647 ∷ [])
crp_above = refl

crp_far_above : replacements Crp pools (NodeOf.Part (Tree.Number 2147483649)) ≡ []
crp_far_above = refl

glr : replacements Glr pools (NodeOf.Labelled 20) ≡ NodeOf.Labelled 10 ∷ (NodeOf.Labelled 30 ∷ [])
glr = refl

aar : replacements Aar pools (NodeOf.Target m (Trees.Then (variable i) Trees.None)) ≡ NodeOf.Target n (Trees.Then (Tree.Number 1) Trees.None) ∷ []
aar = refl

cnr : replacements Cnr pools (NodeOf.Part m_of_i) ≡ NodeOf.Part (Tree.Reference n (Trees.Then (variable i) Trees.None)) ∷ []
cnr = refl

sar : replacements Sar pools (NodeOf.Target m (Trees.Then (variable i) Trees.None))
    ≡ NodeOf.Target i Trees.None ∷ (NodeOf.Target j Trees.None ∷ (NodeOf.Target k Trees.None ∷ []))
sar = refl

sar_part : replacements Sar pools (NodeOf.Part m_of_i) ≡ map NodeOf.Part (variable i ∷ (variable j ∷ (variable k ∷ [])))
sar_part = refl

asr : replacements Asr pools (NodeOf.Part (variable i)) ≡ map NodeOf.Part (m_of_i ∷ (n_of_1 ∷ []))
asr = refl

asr_element : replacements Asr pools (NodeOf.Part n_of_1) ≡ []
asr_element = refl

acr : replacements Acr pools (NodeOf.Part (Tree.Number 1)) ≡ map NodeOf.Part (m_of_i ∷ (n_of_1 ∷ []))
acr = refl

acr_target : replacements Acr pools (NodeOf.Target k Trees.None) ≡ []
acr_target = refl

scr : replacements Scr pools (NodeOf.Part (Tree.Number 1)) ≡ map NodeOf.Part (variable i ∷ (variable j ∷ (variable k ∷ [])))
scr = refl

dsa : next_constants (Constant.Number (pos 5)) ≡ Constant.Number (pos 6) ∷ (Constant.Number (pos 4) ∷ [])
dsa = refl

dsa_least : next_constants (Constant.Number (negsuc 2147483646)) ≡ Constant.Number (negsuc 2147483645) ∷ []
dsa_least = refl

rsr : replacements Rsr pools (NodeOf.Itself Statement.Return) ≡ []
rsr = refl

sdl : replacements Sdl pools (NodeOf.Itself (Statement.Goto 10)) ≡ NodeOf.Itself Statement.Continue ∷ []
sdl = refl

-- ROR replaces the relational operators, and all of them
relational : (op : Operator) → is_in relations op ≡ is_relation op
relational operator.Less = refl
relational _ = refl

abs_none : replacements Abs pools (NodeOf.Part (Tree.Number 3)) ≡ []
abs_none = refl
