-- What is wrong with a tree or a statement, from what is wrong with its parts.
use Rattle.f77_legal.proofs.Common.{◌≡◌, ◌∙◌, ap, map, sym, List, refl, ℕ, [], false, ◌∷◌, length, Bool, arith, true, ◌+◌, ◌||◌, suc, Option, ◌&&◌, ◌<◌, not}
use Rattle.f77_legal.proofs.Common.{drop, get_or, option_map, ◌≤◌, zero, ◌==◌, subst, add-one, drop-cons, Vec, Box, nat_tests, array_bounds, kind_at}
use Rattle.f77_legal.proofs.Common.{dimensions_fit, items_pass, all_fit, are_integer, has_name, kinds_agree, names_pass, tree_count, tree_passes, value_passes}
use Rattle.f77_legal.proofs.Common.{fits_bounds, is_of_kind, is_of_kind_if_given, operand_kind, result_kind, takes, value_fits, Adds, Names, same_kind}
use Rattle.f77_legal.proofs.Common.{Statement, statement_of, Tree, Trees, tree_of, trees, expr_step, ref_step, Expr, Kind, Integer, Logical}
use Rattle.std.specs.declared.alloc.Global.{Global}
use Rattle.f77_tree.specs.declared.intrinsic.Intrinsic.{Intrinsic}
use Rattle.f77_tree.specs.declared.operator.Operator.{Operator}
use Rattle.f77_tree.specs.declared.statement.Stmt.{Stmt}
use Rattle.f77_tree.specs.declared.tree.Expr.TheFolds.{fold-roll-Expr}
use Rattle.f77_tree.specs.declared.tree.Expr.TheOpen.{Expr-F}
use Rattle.f77_tree.specs.declared.tree.Expr.TheVariants.{rolls-Call}
use Rattle.f77_tree.specs.declared.tree.Ref.{Ref}
use Rattle.f77_tree.proofs.Views.{assign_view, binary_view, logical_view, loop_view, ref_view, reference_view}
use Rattle.f77_tree.specs.declared.statement.Stmt.TheVariants as forms
use Rattle.f77_tree.specs.declared.statement.Stmt.TheViews as boxed
use Rattle.f77_tree.specs.declared.tree.Expr.TheViews as views
use Rattle.f77_legal.specs.declared.broken.Flaws.{Flaws}
use Rattle.f77_legal.proofs.Counts.{count_trees}

either_fails : (old a b : Bool) → ((old || not a) || not b) ≡ (old || not (a && b))
either_fails true a b = refl
either_fails false true b = refl
either_fails false false b = refl

nothing_more : (old : Bool) → old ≡ (old || not true)
nothing_more true = refl
nothing_more false = refl

pub joined : {f g h : Flaws} {a b c d e k : Bool} → Adds f g a b c → Adds g h d e k → Adds f h (a && d) (b && e) (c && k)
joined {f} {g} {h} {a} {b} {c} {d} {e} {k} first more = record {
  names = more.names ∙ ap (λ old. old || not d) first.names ∙ either_fails f.names a d;
  kinds = more.kinds ∙ ap (λ old. old || not e) first.kinds ∙ either_fails f.kinds b e;
  bounds = more.bounds ∙ ap (λ old. old || not k) first.bounds ∙ either_fails f.bounds c k;
}

pub as_before : (f : Flaws) → Adds f f true true true
as_before f = record { names = nothing_more f.names; kinds = nothing_more f.kinds; bounds = nothing_more f.bounds }

adds_same : {f g : Flaws} {a b c d e k : Bool} → Adds f g a b c → a ≡ d → b ≡ e → c ≡ k → Adds f g d e k
adds_same {f} adds named agree fit = record {
  names = adds.names ∙ ap (λ x. f.names || not x) named;
  kinds = adds.kinds ∙ ap (λ x. f.kinds || not x) agree;
  bounds = adds.bounds ∙ ap (λ x. f.bounds || not x) fit;
}

call_view : (f : Intrinsic) (arguments : Vec Expr Global) → tree_of (views.Call f arguments) ≡ Tree.Call f (trees (map tree_of arguments.items))
call_view f arguments = ap tree_of (sym (rolls-Call f arguments)) ∙ fold-roll-Expr Tree (List ℕ × List Tree) expr_step ref_step (Expr-F.Call f arguments)

zero_same : (n : ℕ) → (0 == n) ≡ (n == 0)
zero_same n = grind (arith, nat_tests)

pub drop_item : (xs : List Expr) (i : ℕ) (x : Expr) → i < length xs → x ≡ get_or xs i x → drop i xs ≡ x ∷ drop (i + 1) xs
drop_item xs i x here is = rw add-one (drop-cons xs i x here ∙ ap (λ y. y ∷ drop (suc i) xs) (sym is))

pub drop_all : (xs : List Expr) (i : ℕ) → length xs ≤ i → drop i xs ≡ []
drop_all [] zero past = refl
drop_all [] (suc i) past = refl
drop_all (y ∷ xs) zero past = absurd (omega (arith, past))
drop_all (y ∷ xs) (suc i) past = drop_all xs i (omega (arith, past))

module _ (names : Names) where
  abbrev pub AddsTree : Flaws → Flaws → Kind → Tree → Type 0
  AddsTree f g kind tree = Adds f g (tree_passes (has_name names) tree) (is_of_kind (kind_at names) kind tree) (fits_bounds (array_bounds names) tree)

  abbrev pub AddsItems : Flaws → Flaws → Trees → Type 0
  AddsItems f g items = Adds f g (items_pass (has_name names) items) (are_integer (kind_at names) items) (all_fit (array_bounds names) items)

  abbrev pub AddsValue : Flaws → Flaws → Option Tree → Type 0
  AddsValue f g value = Adds f g (value_passes (has_name names) value) (is_of_kind_if_given (kind_at names) Integer value) (value_fits (array_bounds names) value)

  abbrev pub AddsStatement : Flaws → Flaws → Statement → Type 0
  AddsStatement f g s = Adds f g (names_pass (has_name names) s) (kinds_agree (kind_at names) s) (dimensions_fit (array_bounds names) s)

  -- the number of items is the length of the list
  counted : (items : List Expr) (count : ℕ) → count ≡ length items → (n : ℕ) → (count == n) ≡ (tree_count (trees (map tree_of items)) == n)
  counted items count is n = ap (λ k. k == n) (is ∙ sym (count_trees items))

  module _ (kind : Kind) (expr : Expr) (f g h k : Flaws) where
    pub binary_adds : (own operands : Kind) (op : Operator) (a b : Box Expr Global) (x y : Expr) → expr ≡ views.Binary op a b → x ≡ a.value → y ≡ b.value
        → own ≡ result_kind op → operands ≡ operand_kind op → Adds f g true (same_kind own kind) true → AddsTree g h operands (tree_of x) → AddsTree h k operands (tree_of y)
        → AddsTree f k kind (tree_of expr)
    binary_adds own operands op a b x y is left right result required first second third =
        subst (AddsTree f k kind) (sym (ap tree_of is ∙ binary_view op a b))
        (adds_same (joined first (joined second third))
        (λ i. tree_passes (has_name names) (tree_of (left i)) && tree_passes (has_name names) (tree_of (right i)))
        (λ i. same_kind (result i) kind
        && (is_of_kind (kind_at names) (required i) (tree_of (left i)) && is_of_kind (kind_at names) (required i) (tree_of (right i))))
        (λ i. fits_bounds (array_bounds names) (tree_of (left i)) && fits_bounds (array_bounds names) (tree_of (right i))))

    pub call_adds : (function : Intrinsic) (arguments : Vec Expr Global) (xs : List Expr) (count : ℕ) (are_right : Bool) → expr ≡ views.Call function arguments
        → xs ≡ arguments.items → count ≡ length arguments.items → are_right ≡ takes function count → Adds f g true (same_kind Integer kind) true
        → Adds g h true true are_right → AddsItems h k (trees (map tree_of xs)) → AddsTree f k kind (tree_of expr)
    call_adds function arguments xs count are_right is same long right first second third =
        subst (AddsTree f k kind) (sym (ap tree_of is ∙ call_view function arguments))
        (adds_same (joined first (joined second third)) (λ i. items_pass (has_name names) (trees (map tree_of (same i))))
        (λ i. same_kind Integer kind && are_integer (kind_at names) (trees (map tree_of (same i))))
        (λ i. (right ∙ ap (takes function) (long ∙ sym (count_trees arguments.items))) i && all_fit (array_bounds names) (trees (map tree_of (same i)))))

    pub reference_adds : (own : Kind) (r : Ref) (xs : List Expr) (count : ℕ) → expr ≡ views.Reference r → xs ≡ r.subscripts.items → count ≡ length r.subscripts.items
        → own ≡ kind_at names r.name → Adds f g (has_name names r.name) true (count == length (array_bounds names r.name)) → Adds g h true (same_kind own kind) true
        → AddsItems h k (trees (map tree_of xs)) → AddsTree f k kind (tree_of expr)
    reference_adds own r xs count is same long kind_is first second third =
        subst (AddsTree f k kind) (sym (ap tree_of is ∙ reference_view r))
        (adds_same (joined first (joined second third)) (λ i. has_name names r.name && items_pass (has_name names) (trees (map tree_of (same i))))
        (λ i. same_kind (kind_is i) kind && are_integer (kind_at names) (trees (map tree_of (same i))))
        (λ i. counted r.subscripts.items count long (length (array_bounds names r.name)) i && all_fit (array_bounds names) (trees (map tree_of (same i)))))

  module _ (s : Stmt) (f g h : Flaws) where
    pub assign_adds : (k : Flaws) (own : Kind) (target : Ref) (value : Expr) (xs : List Expr) (count : ℕ) → s ≡ forms.Assign target value → xs ≡ target.subscripts.items
        → count ≡ length target.subscripts.items → own ≡ kind_at names target.name
        → Adds f g (has_name names target.name) true (count == length (array_bounds names target.name)) → AddsItems g h (trees (map tree_of xs))
        → AddsTree h k own (tree_of value) → AddsStatement f k (statement_of s)
    assign_adds k own target value xs count is same long kind_is first second third =
        subst (AddsStatement f k)
        (sym (ap statement_of is ∙ assign_view target value ∙ ap (λ (r : List ℕ × List Tree). Statement.Assign r.0 (trees r.1) (tree_of value)) (ref_view target)))
        (adds_same (joined first (joined second third))
        (λ i. has_name names target.name && (items_pass (has_name names) (trees (map tree_of (same i))) && tree_passes (has_name names) (tree_of value)))
        (λ i. are_integer (kind_at names) (trees (map tree_of (same i))) && is_of_kind (kind_at names) (kind_is i) (tree_of value))
        (λ i. counted target.subscripts.items count long (length (array_bounds names target.name)) i
        && (all_fit (array_bounds names) (trees (map tree_of (same i))) && fits_bounds (array_bounds names) (tree_of value))))

    pub logical_adds : (condition : Expr) (a : Box Stmt Global) (x : Stmt) → s ≡ boxed.LogicalIf condition a → x ≡ a.value → AddsTree f g Logical (tree_of condition)
        → AddsStatement g h (statement_of x) → AddsStatement f h (statement_of s)
    logical_adds condition a x is inner first second =
        subst (AddsStatement f h) (sym (ap statement_of is ∙ logical_view condition a))
        (subst (λ (x : Stmt). AddsStatement f h (Statement.LogicalIf (tree_of condition) (statement_of x))) inner (joined first second))

    pub loop_adds : (k m n : Flaws) (own : Kind) (label : ℕ) (variable : List ℕ) (from to : Expr) (step : Option Expr) (by : Option Tree)
        → s ≡ forms.Loop label variable from to step → by ≡ option_map tree_of step → own ≡ kind_at names variable
        → Adds f g (has_name names variable) true (0 == length (array_bounds names variable)) → Adds g h true (same_kind own Integer) true
        → AddsTree h k Integer (tree_of from) → AddsTree k m Integer (tree_of to) → AddsValue m n by → AddsStatement f n (statement_of s)
    loop_adds k m n own label variable from to step by is given kind_is first second third fourth fifth =
        subst (AddsStatement f n) (sym (ap statement_of is ∙ loop_view label variable from to step))
        (adds_same (joined first (joined second (joined third (joined fourth fifth))))
        (λ i. has_name names variable
        && (tree_passes (has_name names) (tree_of from) && (tree_passes (has_name names) (tree_of to) && value_passes (has_name names) (given i))))
        (λ i. same_kind (kind_is i) Integer
        && (is_of_kind (kind_at names) Integer (tree_of from)
        && (is_of_kind (kind_at names) Integer (tree_of to) && is_of_kind_if_given (kind_at names) Integer (given i))))
        (λ i. zero_same (length (array_bounds names variable)) i
        && (fits_bounds (array_bounds names) (tree_of from) && (fits_bounds (array_bounds names) (tree_of to) && value_fits (array_bounds names) (given i)))))
