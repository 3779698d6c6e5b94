-- The tests of two expressions or statements hold exactly where they are equal.
use Rattle.std.specs.Prelude.{◌≡◌, ℕ, ◌==◌, List, [], ◌∷◌, Option, Bool, true, ◌&&◌, refl}
use Rattle.std.specs.Bool.{Decides}
use Rattle.std.specs.Cmp.{IsEquivalence, decided, unsigned_Decides}
use Rattle.std.specs.Cmp.{signed_Decides, booleans_Decides, first_so, second_so}
use Rattle.std.specs.Cmp.Derive.{both_true}
use Rattle.std.specs.Cmp.Lexicographic.{pointwise, pointwise_decides, bytes_decides}
use Rattle.std.specs.Option.{option_eq}
use Rattle.std.specs.Str.{bytes_eq}
use Rattle.std.proofs.Common.{true≢false, sym, ap, subst}
use Rattle.f77_tree.specs.Deciding.{decided_by, option_decides}
use Rattle.f77_tree.specs.declared.data.Constant.{Constant}
use Rattle.f77_tree.specs.declared.data.Constant.TheVariants.{Number, Truth}
use Rattle.f77_tree.specs.declared.data.Value.{Value}
use Rattle.f77_tree.specs.declared.intrinsic.Intrinsic.{Intrinsic}
use Rattle.f77_tree.specs.declared.intrinsic.Intrinsic.TheVariants as function
use Rattle.f77_tree.specs.declared.operator.Operator.{Operator}
use Rattle.f77_tree.specs.declared.operator.Operator.TheVariants as operator
use Rattle.f77_tree.specs.declared.operator.Sign.{Sign}
use Rattle.f77_tree.specs.declared.operator.Sign.TheVariants.{Plus, Minus}
use Rattle.f77_tree.specs.declared.tree.Kind.{Kind}
use Rattle.f77_tree.specs.declared.tree.Kind.TheVariants.{Integer, Logical}
use Rattle.f77_tree.specs.Intrinsic.{function_name}
use Rattle.f77_tree.specs.Operator.{symbol}
use Rattle.f77_tree.specs.Tree.{Tree, Trees, DeclFields, GroupFields}
use Rattle.f77_tree.specs.Statement.{Statement, same_statement}
use Rattle.f77_tree.specs.View.{trees}
use Rattle.f77_tree.specs.Comparing.{same_kind, same_sign, same_function, same_operator, same_constant}
use Rattle.f77_tree.specs.Comparing.{same_value, same_tree, same_trees, same_place, same_decl, same_group}

names_decide : (xs ys : List (List ℕ)) → Decides (pointwise bytes_eq xs ys) (xs ≡ ys)
names_decide = pointwise_decides bytes_decides

kind_is : (x y : Kind) → same_kind x y ≡ true → x ≡ y
kind_is Integer Integer e = refl
kind_is Logical Logical e = refl
kind_is _ _ e = absurd (true≢false (sym e))

kind_own : (x : Kind) → same_kind x x ≡ true
kind_own Integer = refl
kind_own Logical = refl

sign_is : (x y : Sign) → same_sign x y ≡ true → x ≡ y
sign_is Plus Plus e = refl
sign_is Minus Minus e = refl
sign_is _ _ e = absurd (true≢false (sym e))

sign_own : (x : Sign) → same_sign x x ≡ true
sign_own Plus = refl
sign_own Minus = refl

function_is : (x y : Intrinsic) → same_function x y ≡ true → x ≡ y
function_is function.Mod function.Mod e = refl
function_is function.Iabs function.Iabs e = refl
function_is function.Min0 function.Min0 e = refl
function_is function.Max0 function.Max0 e = refl
function_is _ _ e = absurd (true≢false (sym e))

function_own : (x : Intrinsic) → same_function x x ≡ true
function_own x = (bytes_decides (function_name x) (function_name x)).1 refl

operator_is : (x y : Operator) → same_operator x y ≡ true → x ≡ y
operator_is operator.Equivalent operator.Equivalent e = refl
operator_is operator.NotEquivalent operator.NotEquivalent e = refl
operator_is operator.Or operator.Or e = refl
operator_is operator.And operator.And e = refl
operator_is operator.Less operator.Less e = refl
operator_is operator.LessOrEqual operator.LessOrEqual e = refl
operator_is operator.Equal operator.Equal e = refl
operator_is operator.NotEqual operator.NotEqual e = refl
operator_is operator.GreaterOrEqual operator.GreaterOrEqual e = refl
operator_is operator.Greater operator.Greater e = refl
operator_is operator.Add operator.Add e = refl
operator_is operator.Subtract operator.Subtract e = refl
operator_is operator.Multiply operator.Multiply e = refl
operator_is operator.Divide operator.Divide e = refl
operator_is operator.Power operator.Power e = refl
operator_is _ _ e = absurd (true≢false (sym e))

operator_own : (x : Operator) → same_operator x x ≡ true
operator_own x = (bytes_decides (symbol x) (symbol x)).1 refl

constant_is : (x y : Constant) → same_constant x y ≡ true → x ≡ y
constant_is (Number z) (Number w) e = ap Number ((signed_Decides z w).0 e)
constant_is (Truth a) (Truth b) e = ap Truth ((booleans_Decides a b).0 e)
constant_is _ _ e = absurd (true≢false (sym e))

constant_own : (x : Constant) → same_constant x x ≡ true
constant_own (Number z) = (signed_Decides z z).1 refl
constant_own (Truth a) = (booleans_Decides a a).1 refl

value_is : (v w : Value) → same_value v w ≡ true → v ≡ w
value_is v w e = λ i. record {
  times = (unsigned_Decides v.times w.times).0 (first_so _ _ e) i;
  constant = constant_is v.constant w.constant (second_so _ _ e) i;
}

value_own : (v : Value) → same_value v v ≡ true
value_own v = both_true ((unsigned_Decides v.times v.times).1 refl) (constant_own v.constant)

pub value_decides : (v w : Value) → Decides (same_value v w) (v ≡ w)
value_decides = decided_by same_value value_is value_own

mutual
  tree_is : (t u : Tree) → same_tree t u ≡ true → t ≡ u
  tree_is (Tree.Number n) (Tree.Number m) e = ap Tree.Number ((unsigned_Decides n m).0 e)
  tree_is (Tree.Truth a) (Tree.Truth b) e = ap Tree.Truth ((booleans_Decides a b).0 e)
  tree_is (Tree.Reference name items) (Tree.Reference other others) e =
      λ i. Tree.Reference ((bytes_decides name other).0 (first_so _ _ e) i)
      (trees_are items others (second_so _ _ e) i)
  tree_is (Tree.Call f items) (Tree.Call g others) e =
      λ i. Tree.Call (function_is f g (first_so _ _ e) i)
      (trees_are items others (second_so _ _ e) i)
  tree_is (Tree.Signed sign t) (Tree.Signed other u) e =
      λ i. Tree.Signed (sign_is sign other (first_so _ _ e) i) (tree_is t u (second_so _ _ e) i)
  tree_is (Tree.Not t) (Tree.Not u) e = ap Tree.Not (tree_is t u e)
  tree_is (Tree.Binary op a b) (Tree.Binary other c d) e =
      λ i. Tree.Binary (operator_is op other (first_so _ _ e) i)
      (tree_is a c (first_so _ _ (second_so _ _ e)) i)
      (tree_is b d (second_so _ _ (second_so _ _ e)) i)
  tree_is (Tree.ZeroPush t) (Tree.ZeroPush u) e = ap Tree.ZeroPush (tree_is t u e)
  tree_is _ _ e = absurd (true≢false (sym e))

  trees_are : (ts us : Trees) → same_trees ts us ≡ true → ts ≡ us
  trees_are Trees.None Trees.None e = refl
  trees_are (Trees.Then t ts) (Trees.Then u us) e =
      λ i. Trees.Then (tree_is t u (first_so _ _ e) i) (trees_are ts us (second_so _ _ e) i)
  trees_are _ _ e = absurd (true≢false (sym e))

mutual
  tree_own : (t : Tree) → same_tree t t ≡ true
  tree_own (Tree.Number n) = (unsigned_Decides n n).1 refl
  tree_own (Tree.Truth a) = (booleans_Decides a a).1 refl
  tree_own (Tree.Reference name items) =
      both_true ((bytes_decides name name).1 refl) (trees_own items)
  tree_own (Tree.Call f items) = both_true (function_own f) (trees_own items)
  tree_own (Tree.Signed sign t) = both_true (sign_own sign) (tree_own t)
  tree_own (Tree.Not t) = tree_own t
  tree_own (Tree.Binary op a b) = both_true (operator_own op) (both_true (tree_own a) (tree_own b))
  tree_own (Tree.ZeroPush t) = tree_own t

  trees_own : (ts : Trees) → same_trees ts ts ≡ true
  trees_own Trees.None = refl
  trees_own (Trees.Then t ts) = both_true (tree_own t) (trees_own ts)

pub tree_decides : (t u : Tree) → Decides (same_tree t u) (t ≡ u)
tree_decides = decided_by same_tree tree_is tree_own

pub step_decides : (t u : Option Tree) → Decides (option_eq same_tree t u) (t ≡ u)
step_decides = option_decides same_tree tree_decides

abbrev tree_list : Trees → List Tree
tree_list Trees.None = []
tree_list (Trees.Then t ts) = t ∷ tree_list ts

listed : (ts : List Tree) → tree_list (trees ts) ≡ ts
listed [] = refl
listed (t ∷ ts) = ap (λ us. t ∷ us) (listed ts)

place_is : (p q : List ℕ × List Tree) → same_place p q ≡ true → p ≡ q
place_is p q e =
    let items : trees p.1 ≡ trees q.1 = trees_are (trees p.1) (trees q.1) (second_so _ _ e) in
    let lists : p.1 ≡ q.1 = subst (λ ts. ts ≡ q.1) (listed p.1)
    (subst (λ ts. tree_list (trees p.1) ≡ ts) (listed q.1) (ap tree_list items)) in
    λ i. ((bytes_decides p.0 q.0).0 (first_so _ _ e) i, lists i)

place_own : (p : List ℕ × List Tree) → same_place p p ≡ true
place_own p = both_true ((bytes_decides p.0 p.0).1 refl) (trees_own (trees p.1))

pub place_decides : (p q : List ℕ × List Tree) → Decides (same_place p q) (p ≡ q)
place_decides = decided_by same_place place_is place_own

decl_is : (d e : DeclFields) → same_decl d e ≡ true → d ≡ e
decl_is d e s = λ i. record {
  name = (bytes_decides d.name e.name).0 (first_so _ _ s) i;
  bounds = (bytes_decides d.bounds e.bounds).0 (second_so _ _ s) i;
}

decl_own : (d : DeclFields) → same_decl d d ≡ true
decl_own d =
    both_true ((bytes_decides d.name d.name).1 refl) ((bytes_decides d.bounds d.bounds).1 refl)

pub decl_decides : (d e : DeclFields) → Decides (same_decl d e) (d ≡ e)
decl_decides = decided_by same_decl decl_is decl_own

group_is : (g h : GroupFields) → same_group g h ≡ true → g ≡ h
group_is g h e = λ i. record {
  names = (names_decide g.names h.names).0 (first_so _ _ e) i;
  values = (pointwise_decides value_decides g.values h.values).0 (second_so _ _ e) i;
}

group_own : (g : GroupFields) → same_group g g ≡ true
group_own g = both_true ((names_decide g.names g.names).1 refl)
    ((pointwise_decides value_decides g.values g.values).1 refl)

pub group_decides : (g h : GroupFields) → Decides (same_group g h) (g ≡ h)
group_decides = decided_by same_group group_is group_own

pub decls_decide : (ds es : List DeclFields) → Decides (pointwise same_decl ds es) (ds ≡ es)
decls_decide = pointwise_decides decl_decides

pub groups_decide : (gs hs : List GroupFields) → Decides (pointwise same_group gs hs) (gs ≡ hs)
groups_decide = pointwise_decides group_decides

pub statement_is : (s t : Statement) → same_statement s t ≡ true → s ≡ t
statement_is (Statement.Subroutine name names) (Statement.Subroutine other others) e =
    λ i. Statement.Subroutine ((bytes_decides name other).0 (first_so _ _ e) i)
    ((names_decide names others).0 (second_so _ _ e) i)
statement_is (Statement.Declare kind ds) (Statement.Declare other es) e =
    λ i. Statement.Declare (kind_is kind other (first_so _ _ e) i)
    ((decls_decide ds es).0 (second_so _ _ e) i)
statement_is (Statement.Dimension ds) (Statement.Dimension es) e =
    ap Statement.Dimension ((decls_decide ds es).0 e)
statement_is (Statement.Preset gs) (Statement.Preset hs) e =
    ap Statement.Preset ((groups_decide gs hs).0 e)
statement_is (Statement.Assign name items t) (Statement.Assign other others u) e =
    let place : (bytes_eq name other && same_trees items others) ≡ true =
    first_so (bytes_eq name other && same_trees items others) (same_tree t u) e in
    λ i. Statement.Assign ((bytes_decides name other).0 (first_so _ _ place) i)
    (trees_are items others (second_so _ _ place) i)
    (tree_is t u (second_so _ _ e) i)
statement_is (Statement.Goto l) (Statement.Goto m) e =
    ap Statement.Goto ((unsigned_Decides l m).0 e)
statement_is (Statement.ComputedGoto ls t) (Statement.ComputedGoto ms u) e =
    λ i. Statement.ComputedGoto ((bytes_decides ls ms).0 (first_so _ _ e) i)
    (tree_is t u (second_so _ _ e) i)
statement_is (Statement.ArithIf t l m n) (Statement.ArithIf u a b c) e =
    let labels : (l == a && (m == b && n == c))
    ≡ true = second_so (same_tree t u) (l == a && (m == b && n == c)) e in
    let others : (m == b && n == c) ≡ true = second_so (l == a) (m == b && n == c) labels in
    λ i. Statement.ArithIf (tree_is t u (first_so _ _ e) i)
    ((unsigned_Decides l a).0 (first_so _ _ labels) i)
    ((unsigned_Decides m b).0 (first_so _ _ others) i)
    ((unsigned_Decides n c).0 (second_so _ _ others) i)
statement_is (Statement.LogicalIf t a) (Statement.LogicalIf u b) e =
    λ i. Statement.LogicalIf (tree_is t u (first_so _ _ e) i) (statement_is a b (second_so _ _ e) i)
statement_is (Statement.BlockIf t) (Statement.BlockIf u) e = ap Statement.BlockIf (tree_is t u e)
statement_is (Statement.ElseIf t) (Statement.ElseIf u) e = ap Statement.ElseIf (tree_is t u e)
statement_is Statement.Else Statement.Else e = refl
statement_is Statement.EndIf Statement.EndIf e = refl
statement_is (Statement.Loop l name a b c) (Statement.Loop m other u v w) e =
    let values : Bool = same_tree a u && (same_tree b v && option_eq same_tree c w) in
    let named : (bytes_eq name other && values) ≡ true =
    second_so (l == m) (bytes_eq name other && values) e in
    let first : values ≡ true = second_so (bytes_eq name other) values named in
    let steps : (same_tree b v && option_eq same_tree c w) ≡ true =
    second_so (same_tree a u) (same_tree b v && option_eq same_tree c w) first in
    λ i. Statement.Loop ((unsigned_Decides l m).0 (first_so _ _ e) i)
    ((bytes_decides name other).0 (first_so _ _ named) i)
    (tree_is a u (first_so _ _ first) i) (tree_is b v (first_so _ _ steps) i)
    ((step_decides c w).0 (second_so _ _ steps) i)
statement_is Statement.Continue Statement.Continue e = refl
statement_is Statement.Return Statement.Return e = refl
statement_is Statement.Stop Statement.Stop e = refl
statement_is Statement.Trap Statement.Trap e = refl
statement_is Statement.End Statement.End e = refl
statement_is _ _ e = absurd (true≢false (sym e))

pub statement_own : (s : Statement) → same_statement s s ≡ true
statement_own (Statement.Subroutine name names) =
    both_true ((bytes_decides name name).1 refl) ((names_decide names names).1 refl)
statement_own (Statement.Declare kind ds) = both_true (kind_own kind) ((decls_decide ds ds).1 refl)
statement_own (Statement.Dimension ds) = (decls_decide ds ds).1 refl
statement_own (Statement.Preset gs) = (groups_decide gs gs).1 refl
statement_own (Statement.Assign name items t) =
    both_true (both_true ((bytes_decides name name).1 refl) (trees_own items)) (tree_own t)
statement_own (Statement.Goto l) = (unsigned_Decides l l).1 refl
statement_own (Statement.ComputedGoto ls t) = both_true ((bytes_decides ls ls).1 refl) (tree_own t)
statement_own (Statement.ArithIf t l m n) =
    both_true (tree_own t) (both_true ((unsigned_Decides l l).1 refl)
    (both_true ((unsigned_Decides m m).1 refl) ((unsigned_Decides n n).1 refl)))
statement_own (Statement.LogicalIf t a) = both_true (tree_own t) (statement_own a)
statement_own (Statement.BlockIf t) = tree_own t
statement_own (Statement.ElseIf t) = tree_own t
statement_own (Statement.Loop l name a b c) =
    both_true ((unsigned_Decides l l).1 refl)
    (both_true ((bytes_decides name name).1 refl)
    (both_true (tree_own a) (both_true (tree_own b) ((step_decides c c).1 refl))))
statement_own _ = refl

pub statement_decides : (s t : Statement) → Decides (same_statement s t) (s ≡ t)
statement_decides = decided_by same_statement statement_is statement_own

-- each of these tests is an equivalence
pub tree_equiv : IsEquivalence same_tree
tree_equiv = decided same_tree tree_decides

pub place_equiv : IsEquivalence same_place
place_equiv = decided same_place place_decides

pub decl_equiv : IsEquivalence same_decl
decl_equiv = decided same_decl decl_decides

pub group_equiv : IsEquivalence same_group
group_equiv = decided same_group group_decides

pub statement_equiv : IsEquivalence same_statement
statement_equiv = decided same_statement statement_decides
