-- An operator puts in the place of a node of a formed statement what is formed itself.
use Rattle.mothra_replacements.proofs.Common.{◌≡◌, List, refl, [], filter, ◌∷◌, not, None, true, ℕ, Bool, Some, false, ◌++◌, ◌&&◌, ◌+◌, if◌then◌else◌, nat_eq}
use Rattle.mothra_replacements.proofs.Common.{nat_le, ◌||◌, suc, zero, nat_lt, All-append, All-cons, All-map, All-nil, All-weaker, All-filter, All, Symbol}
use Rattle.mothra_replacements.proofs.Common.{reference_formed, all_formed, formed, is_some_list, and_true, same_tree, same_operator, same_kind, is_symbolic}
use Rattle.mothra_replacements.proofs.Common.{NodeOf, Statement, form_of, same_statement, Tree, Trees, Operator, scalar, PoolFields, is_comparable, placed}
use Rattle.mothra_replacements.proofs.Common.{are_some, is_in, is_operand, kind_of_expression, next_constants, relations, replacements, absolute}
use Rattle.mothra_replacements.proofs.Common.{absolute_value, acts_or_continues, altered, arithmetic_operators, comparable, connectors, drawn, gives}
use Rattle.mothra_replacements.proofs.Common.{in_expression, in_label, in_statement, in_value, is_replaceable_action, lowered, new_statement, operands}
use Rattle.mothra_replacements.proofs.Common.{other_operations, others, pool, raised, stands_in, truths, unary_of, with_group, with_subscripts, with_unary}
use Rattle.mothra_replacements.proofs.Common.{Operand}
use Rattle.std.specs.Prelude.{⊤}
use Rattle.std.specs.Option.{IfSome}
use Rattle.f77_tree.specs.declared.data.Value.{Value}
use Rattle.f77_tree.specs.declared.form.Form.{Form}
use Rattle.f77_tree.specs.declared.operator.Sign.TheVariants.{Minus}
use Rattle.f77_tree.specs.declared.tree.Kind.{Kind}
use Rattle.f77_tree.specs.declared.tree.Kind.TheVariants.{Integer, Logical}
use Rattle.f77_tree.specs.Limits.{largest_integer}
use Rattle.mothra_codes.specs.declared.op.Op.{Op}
use Rattle.mothra_codes.specs.declared.op.Op.TheVariants.{Aar, Abs, Acr, Aor, Asr, Car, Cnr, Crp, Csr, Der, Dsa, Glr, Lcr, Ror, Rsr, San, Sar, Scr, Sdl, Src}
use Rattle.mothra_codes.specs.declared.op.Op.TheVariants.{Svr, Uoi}
use Rattle.f77_tree.specs.declared.operator.Operator.TheVariants as operator
use Rattle.mothra_replacements.specs.declared.operands.Operand.TheVariants as operand
use Rattle.mothra_replacements.proofs.FormedNodes.{IsFormedTree, IsNamed, IsNoFunction, each_mapped, node_formed}
use Rattle.mothra_replacements.proofs.FormedPools.{All-filter_map, AreFormed, named_formed}
use Rattle.mothra_replacements.proofs.FormedSites.{is_fit}

-- lists of expressions
abbrev AllFormed : List Tree → Type 0
AllFormed ts = All IsFormedTree ts

no_trees : AllFormed []
no_trees = All-nil IsFormedTree

one_tree : (t : Tree) → formed is_symbolic t ≡ true → AllFormed (t ∷ [])
one_tree t f = All-cons IsFormedTree t [] f no_trees

two_trees : (t u : Tree) → formed is_symbolic t ≡ true → formed is_symbolic u ≡ true → AllFormed (t ∷ (u ∷ []))
two_trees t u f g = All-cons IsFormedTree t (u ∷ []) f (one_tree u g)

three_of : (P : Tree → Type 0) (t u v : Tree) → P t → P u → P v → All P (t ∷ (u ∷ (v ∷ [])))
three_of P t u v f g h = All-cons P t (u ∷ (v ∷ [])) f (All-cons P u (v ∷ []) g (All-cons P v [] h (All-nil P)))

-- a property of all of either list holds of all of the list that a test chooses
pub chosen : {X : Type 0} (P : X → Type 0) (b : Bool) (xs ys : List X) → All P xs → All P ys → All P (if b then xs else ys)
chosen P true xs ys one other = one
chosen P false xs ys one other = other

absolute_value_formed : (t : Tree) → formed is_symbolic t ≡ true → formed is_symbolic (absolute_value t) ≡ true
unfolding is_some_list
absolute_value_formed t f = rw f refl

absolute_formed : (kinds : Symbol → Kind) (t : Tree) → formed is_symbolic t ≡ true → AllFormed (absolute kinds t)
absolute_formed kinds t f =
    chosen IsFormedTree (is_operand operand.Constant t || not (same_kind (kind_of_expression kinds t) Integer)) []
    (absolute_value t ∷ (Tree.Signed Minus (absolute_value t) ∷ (Tree.ZeroPush t ∷ []))) no_trees
    (three_of IsFormedTree (absolute_value t) (Tree.Signed Minus (absolute_value t)) (Tree.ZeroPush t) (absolute_value_formed t f) (absolute_value_formed t f) f)

unary_of_formed : (kind : Kind) (t : Tree) → formed is_symbolic t ≡ true → AllFormed (unary_of kind t)
unary_of_formed Integer t f =
    three_of IsFormedTree (Tree.Signed Minus t) (Tree.Binary operator.Add t (Tree.Number 1)) (Tree.Binary operator.Subtract t (Tree.Number 1)) f (rw f refl) (rw f refl)
unary_of_formed Logical t f = one_tree (Tree.Not t) f

unary_formed : (kinds : Symbol → Kind) (t : Tree) → formed is_symbolic t ≡ true → AllFormed (with_unary kinds t)
unary_formed kinds t f =
    chosen IsFormedTree (is_operand operand.Constant t) [] (unary_of (kind_of_expression kinds t) t) no_trees (unary_of_formed (kind_of_expression kinds t) t f)

lowered_formed : (n : ℕ) → AllFormed (lowered n)
lowered_formed zero = one_tree (Tree.Signed Minus (Tree.Number 1)) refl
lowered_formed (suc n) = chosen IsFormedTree (nat_le n largest_integer) (Tree.Number n ∷ []) [] (one_tree (Tree.Number n) refl) no_trees

altered_formed : (t : Tree) → formed is_symbolic t ≡ true → AllFormed (altered t)
altered_formed (Tree.Number n) f =
    All-append IsFormedTree (raised n) (lowered n)
    (chosen IsFormedTree (nat_lt n largest_integer) (Tree.Number (n + 1) ∷ []) [] (one_tree (Tree.Number (n + 1)) refl) no_trees)
    (lowered_formed n)
altered_formed (Tree.Truth b) f = one_tree (Tree.Truth (not b)) refl
altered_formed _ f = no_trees

group_formed : (group : List Operator) (more : Tree → Tree → List Tree)
    → ((a b : Tree) → formed is_symbolic a ≡ true → formed is_symbolic b ≡ true → AllFormed (more a b)) → (t : Tree) → formed is_symbolic t ≡ true → AllFormed (with_group group more t)
group_formed group more each (Tree.Binary op a b) f =
    let (first, second) = and_true (formed is_symbolic a) (formed is_symbolic b) f in
    chosen IsFormedTree (is_in group op) (other_operations group op a b ++ more a b) []
    (All-append IsFormedTree (other_operations group op a b) (more a b)
    (each_mapped IsFormedTree (λ o. Tree.Binary o a b) (filter (λ o. not (same_operator o op)) group) (λ o. f))
    (each a b first second)) no_trees
group_formed group more each _ f = no_trees

operands_formed : (a b : Tree) → formed is_symbolic a ≡ true → formed is_symbolic b ≡ true → AllFormed (operands a b)
operands_formed a b first second = two_trees a b first second

truths_formed : AllFormed truths
truths_formed = two_trees (Tree.Truth true) (Tree.Truth false) refl refl

-- what may be put in the place of a node
abbrev pub IsFit : NodeOf → Type 0
IsFit node = is_fit node ≡ true

no_nodes : All IsFit []
no_nodes = All-nil IsFit

-- what may stand left of `=` or be a DO variable, if it is a reference
abbrev IsPlace : Tree → Type 0
IsPlace (Tree.Reference name items) = IsNamed name × (all_formed is_symbolic items ≡ true)
IsPlace _ = ⊤

formed_place : (t : Tree) → IsFormedTree t → IsPlace t
formed_place (Tree.Reference name items) f = let (is, other, all) = reference_formed is_symbolic name items f in (is, all)
formed_place _ f = tt

target_fit : (old : Symbol) (olds : Trees) (t : Tree) → IsPlace t → IfSome (placed (NodeOf.Target old olds) t) IsFit
target_fit old olds (Tree.Reference name items) place = rw (place.0, place.1) refl
target_fit old olds _ place = tt

variable_fit : (old : Symbol) (t : Tree) → IsPlace t → IfSome (placed (NodeOf.Named old) t) IsFit
variable_fit old (Tree.Reference name items) place = by (are_some items)
  where
    by : (b : Bool) → IfSome (if b then None else Some (NodeOf.Named name)) IsFit
    by true = tt
    by false = place.0
variable_fit old _ place = tt

statement_fit : (is_site : Form → Bool) (new s : Statement) → is_fit (NodeOf.Itself new) ≡ true → All IsFit (new_statement is_site new s)
statement_fit is_site new s fit =
    chosen IsFit (is_site (form_of s) && not (same_statement new s)) (NodeOf.Itself new ∷ []) [] (All-cons IsFit (NodeOf.Itself new) [] fit no_nodes) no_nodes

statements_fit : (op : Op) (s : Statement) → All IsFit (in_statement op s)
statements_fit Rsr s = statement_fit acts_or_continues Statement.Return s refl
statements_fit San s = statement_fit acts_or_continues Statement.Trap s refl
statements_fit Sdl s = statement_fit is_replaceable_action Statement.Continue s refl
statements_fit _ s = no_nodes

labels_fit : (op : Op) (pools : PoolFields) (label : ℕ) → All IsFit (in_label op pools label)
labels_fit Der pools label = each_mapped IsFit NodeOf.Labelled (filter (λ other. not (nat_eq other label)) pools.labels) (λ other. refl)
labels_fit Glr pools label = each_mapped IsFit NodeOf.Labelled (filter (λ other. not (nat_eq other label)) pools.labels) (λ other. refl)
labels_fit _ pools label = no_nodes

values_fit : (op : Op) (value : Value) → All IsFit (in_value op value)
values_fit Dsa value =
    each_mapped IsFit (λ constant. NodeOf.Initial (record { times = value.times; constant = constant })) (next_constants value.constant) (λ constant. refl)
values_fit _ value = no_nodes

module _ (pools : PoolFields) (are : AreFormed pools) where
  pool_formed : (sort : Operand) → AllFormed (pool pools sort)
  pool_formed operand.ArrayReference = are.references
  pool_formed operand.Constant = are.constants
  pool_formed operand.Scalar = are.scalars

  drawn_formed : (new old : Operand) (t : Tree) → AllFormed (drawn pools new old t)
  drawn_formed new old t =
      chosen IsFormedTree (is_operand old t) (others pools.kinds (pool pools new) t) []
      (All-filter (λ u. same_kind (kind_of_expression pools.kinds u) (kind_of_expression pools.kinds t) && not (same_tree u t)) IsFormedTree
      (pool pools new) (pool_formed new)) no_trees

  subscripts_formed : (name : Symbol) (items : Trees) → all_formed is_symbolic items ≡ true → AllFormed (with_subscripts pools name items)
  subscripts_formed name items all =
      All-map IsFormedTree (λ other. Tree.Reference other items) (filter (is_comparable pools name) pools.arrays)
      (All-weaker (λ other. IsNamed other × IsNoFunction other) (λ other. IsFormedTree (Tree.Reference other items))
      (λ other own. named_formed other items own.0 own.1 all) (filter (is_comparable pools name) pools.arrays)
      (All-filter (is_comparable pools name) (λ other. IsNamed other × IsNoFunction other) pools.arrays are.arrays))

  comparable_formed : (name : Symbol) (items : Trees) → all_formed is_symbolic items ≡ true → AllFormed (comparable pools (Tree.Reference name items))
  comparable_formed name items all =
      chosen IsFormedTree (are_some items) (with_subscripts pools name items) [] (subscripts_formed name items all) no_trees

  comparable_of : (t : Tree) → IsFormedTree t → AllFormed (comparable pools t)
  comparable_of (Tree.Reference name items) f = comparable_formed name items (reference_formed is_symbolic name items f).2
  comparable_of _ f = no_trees

  -- what operators put in the place of an expression is formed
  each_formed : (op : Op) (t : Tree) → IsFormedTree t → AllFormed (in_expression op pools t)
  each_formed Aar t f = drawn_formed operand.ArrayReference operand.ArrayReference t
  each_formed Abs t f = absolute_formed pools.kinds t f
  each_formed Acr t f = drawn_formed operand.ArrayReference operand.Constant t
  each_formed Aor t f = group_formed arithmetic_operators operands operands_formed t f
  each_formed Asr t f = drawn_formed operand.ArrayReference operand.Scalar t
  each_formed Car t f = drawn_formed operand.Constant operand.ArrayReference t
  each_formed Cnr t f = comparable_of t f
  each_formed Crp t f = altered_formed t f
  each_formed Csr t f = drawn_formed operand.Constant operand.Scalar t
  each_formed Lcr t f =
      group_formed connectors (λ a b. operands a b ++ truths)
      (λ a b g h. All-append IsFormedTree (operands a b) truths (operands_formed a b g h) truths_formed) t f
  each_formed Ror t f = group_formed relations (λ a b. truths) (λ a b g h. truths_formed) t f
  each_formed Sar t f = drawn_formed operand.Scalar operand.ArrayReference t
  each_formed Scr t f = drawn_formed operand.Scalar operand.Constant t
  each_formed Src t f = drawn_formed operand.Constant operand.Constant t
  each_formed Svr t f = drawn_formed operand.Scalar operand.Scalar t
  each_formed Uoi t f = unary_formed pools.kinds t f
  each_formed _ t f = no_trees

  -- no other expressions than these are references
  drawn_place : (new old : Operand) (t : Tree) → All IsPlace (drawn pools new old t)
  drawn_place new old t = All-weaker IsFormedTree IsPlace formed_place (drawn pools new old t) (drawn_formed new old t)

  no_places : All IsPlace []
  no_places = All-nil IsPlace

  unary_place : (kind : Kind) (name : Symbol) (items : Trees) → All IsPlace (unary_of kind (Tree.Reference name items))
  unary_place Integer name items =
      let t = Tree.Reference name items in
      three_of IsPlace (Tree.Signed Minus t) (Tree.Binary operator.Add t (Tree.Number 1)) (Tree.Binary operator.Subtract t (Tree.Number 1)) tt tt tt
  unary_place Logical name items = All-cons IsPlace (Tree.Not (Tree.Reference name items)) [] tt no_places

  each_place : (op : Op) (name : Symbol) (items : Trees) → all_formed is_symbolic items ≡ true → All IsPlace (in_expression op pools (Tree.Reference name items))
  each_place Aar name items f = drawn_place operand.ArrayReference operand.ArrayReference (Tree.Reference name items)
  each_place Abs name items f =
      let t = Tree.Reference name items in
      let value = absolute_value t in
      chosen IsPlace (not (same_kind (pools.kinds name) Integer)) [] (value ∷ (Tree.Signed Minus value ∷ (Tree.ZeroPush t ∷ []))) no_places
      (three_of IsPlace value (Tree.Signed Minus value) (Tree.ZeroPush t) tt tt tt)
  each_place Asr name items f = drawn_place operand.ArrayReference operand.Scalar (Tree.Reference name items)
  each_place Car name items f = drawn_place operand.Constant operand.ArrayReference (Tree.Reference name items)
  each_place Cnr name items f =
      All-weaker IsFormedTree IsPlace formed_place (comparable pools (Tree.Reference name items)) (comparable_formed name items f)
  each_place Csr name items f = drawn_place operand.Constant operand.Scalar (Tree.Reference name items)
  each_place Sar name items f = drawn_place operand.Scalar operand.ArrayReference (Tree.Reference name items)
  each_place Svr name items f = drawn_place operand.Scalar operand.Scalar (Tree.Reference name items)
  each_place Uoi name items f = unary_place (pools.kinds name) name items
  each_place _ name items f = no_places

  replacements_fit : (op : Op) (node : NodeOf) → node_formed node ≡ true → All IsFit (replacements op pools node)
  replacements_fit op (NodeOf.Itself s) f = statements_fit op s
  replacements_fit op (NodeOf.Target name items) f =
      All-filter_map IsFit IsPlace (placed (NodeOf.Target name items)) (target_fit name items) (in_expression op pools (Tree.Reference name items))
      (each_place op name items (and_true (is_symbolic name) (all_formed is_symbolic items) f).1)
  replacements_fit op (NodeOf.Part t) f =
      All-filter_map IsFit IsFormedTree (placed (NodeOf.Part t)) (λ u g. g) (in_expression op pools t) (each_formed op t f)
  replacements_fit op (NodeOf.Named name) f =
      All-filter_map IsFit IsPlace (placed (NodeOf.Named name)) (variable_fit name) (in_expression op pools (scalar name)) (each_place op name Trees.None refl)
  replacements_fit op (NodeOf.Declared d) f = no_nodes
  replacements_fit op (NodeOf.Labelled label) f = labels_fit op pools label
  replacements_fit op (NodeOf.Initial value) f = values_fit op value

  pub gives_fit : (op : Op) (s : Statement) (node : NodeOf) → node_formed node ≡ true → All IsFit (gives op pools s node)
  gives_fit op s node f = chosen IsFit (stands_in op s) (replacements op pools node) [] (replacements_fit op node f) no_nodes
