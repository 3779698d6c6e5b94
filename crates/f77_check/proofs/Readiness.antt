-- What a statement, or a relation, whose names can be looked up gives its parts.
use Rattle.f77_check.proofs.Common.{◌≡◌, ap, ◌∙◌, sym, subst, List, refl, ℕ, length, Some, true, None, Bool, Option, ◌==◌, option_map, rules, ◌&&◌, true≢false}
use Rattle.f77_check.proofs.Common.{◌≢◌, Box, IfSome, Vec, and_parts, relation_of, is_kept, IsReadyTree, AreFound, CanBeResolved, items_kept, tree_kept, HasEnd}
use Rattle.f77_check.proofs.Common.{Resolver, tree_count, all_fit, fits_bounds, are_integer, is_of_kind, result_kind, array_bounds, kind_at, Symbol, LineFields}
use Rattle.f77_check.proofs.Common.{computed_view, logical_view, Statement, statement_of, jumps_of, stmt_step, Tree, Trees, tree_of, Operator, Expr, Kind}
use Rattle.f77_check.proofs.Common.{Integer, Logical}
use Rattle.std.specs.declared.alloc.Global.{Global}
use Rattle.f77_program.specs.Formed.{is_action}
use Rattle.f77_tree.specs.declared.statement.Stmt.{Stmt, Assign, Goto, ComputedGoto, ArithIf, Continue, Return, Stop, Trap}
use Rattle.f77_tree.specs.declared.statement.Stmt.TheFolds.{fold_out-Stmt}
use Rattle.f77_tree.specs.declared.tree.Ref.{Ref}
use Rattle.f77_tree.specs.Comparing.{same_kind}
use Rattle.f77_actions.specs.declared.expression.Relation.{Relation}
use Rattle.f77_tree.specs.declared.statement.Stmt.TheVariants as forms
use Rattle.f77_tree.specs.declared.statement.Stmt.TheViews as boxed
use Rattle.f77_check.proofs.Operands.{relation_takes}

kind_itself : (kind : Kind) → same_kind kind kind ≡ true
kind_itself Integer = refl
kind_itself Logical = refl

both : {a b : Bool} → a ≡ true → b ≡ true → (a && b) ≡ true
both h k = λ i. h i && k i

-- the operands of a relation
pub related_ready : (r : Resolver) (op : Operator) (o : Relation) (a b : Tree) → relation_of op ≡ Some o → IsReadyTree r Logical (Tree.Binary op a b)
    → IsReadyTree r Integer a × IsReadyTree r Integer b
related_ready r op o a b relation h =
    let takes = relation_takes op o relation in
    let kinds = and_parts _ _ (and_parts (same_kind (result_kind op) Logical) _ h.kinds).1 in
    let bounds = and_parts _ _ h.bounds in
    let kept = and_parts _ _ h.kept in (
      record { names = h.names; kinds = subst (λ k. is_of_kind (kind_at r.tables.names) k a ≡ true) takes kinds.0; bounds = bounds.0; kept = kept.0 },
      record { names = h.names; kinds = subst (λ k. is_of_kind (kind_at r.tables.names) k b ≡ true) takes kinds.1; bounds = bounds.1; kept = kept.1 },
    )

-- the parameters of a DO
module _ (r : Resolver) (label : ℕ) (name : Symbol) (a b : Tree) (c : Option Tree) (h : CanBeResolved r (Statement.Loop label name a b c)) where
  pub first_ready : IsReadyTree r Integer a
  first_ready = record {
    names = h.names;
    kinds = search (rules, h.kinds);
    bounds = search (rules, h.bounds);
    kept = search (rules, h.kept);
  }

  pub last_ready : IsReadyTree r Integer b
  last_ready = record {
    names = h.names;
    kinds = search (rules, h.kinds);
    bounds = search (rules, h.bounds);
    kept = search (rules, h.kept);
  }

pub step_ready : (r : Resolver) (label : ℕ) (name : Symbol) (a b : Tree) (c : Option Expr) → CanBeResolved r (Statement.Loop label name a b (option_map tree_of c))
    → IfSome c (λ e. IsReadyTree r Integer (tree_of e))
step_ready r label name a b None h = tt
step_ready r label name a b (Some e) h = record {
  names = h.names;
  kinds = search (rules, h.kinds);
  bounds = search (rules, h.bounds);
  kept = search (rules, h.kept);
}

-- what is assigned to, by its kind
pub target_ready : (r : Resolver) (name : Symbol) (items : Trees) (t : Tree) → CanBeResolved r (Statement.Assign name items t)
    → (kind : Kind) × IsReadyTree r kind (Tree.Reference name items)
target_ready r name items t h =
    let kinds = kind_at r.tables.names in
    let bounds = array_bounds r.tables.names in
    let sized = and_parts (tree_count items == length (bounds name)) (all_fit bounds items && fits_bounds bounds t) h.bounds in
    let have = and_parts (is_kept r.tables.names name) (items_kept r.tables.names items && tree_kept r.tables.names t) h.kept in (
      kinds name,
      record {
        names = h.names;
        kinds = both (kind_itself (kinds name)) (and_parts (are_integer kinds items) (is_of_kind kinds (kinds name) t) h.kinds).0;
        bounds = both sized.0 (and_parts (all_fit bounds items) (fits_bounds bounds t) sized.1).0;
        kept = both have.0 (and_parts (items_kept r.tables.names items) (tree_kept r.tables.names t) have.1).0;
      },
    )

-- what is known of a statement of the program, by its form
module _ (r : Resolver) (p : List LineFields) (x : Stmt) (ready : CanBeResolved r (statement_of x)) (found : AreFound p (jumps_of (statement_of x))) where
  pub computed_found : (labels : Vec ℕ Global) (value : Expr) (list : List ℕ) → x ≡ forms.ComputedGoto labels value → list ≡ labels.items → AreFound p list
  computed_found labels value list is items =
      let same : statement_of x ≡ Statement.ComputedGoto list (tree_of value) =
      ap statement_of is ∙ computed_view labels value ∙ ap (λ z. Statement.ComputedGoto z (tree_of value)) (sym items) in
      subst (λ s. AreFound p (jumps_of s)) same found

  pub inner_ready : (i : ℕ) (condition : Expr) (a : Box Stmt Global) (inner : Stmt)
      → x ≡ boxed.LogicalIf condition a → inner ≡ a.value → HasEnd p i (statement_of x)
      → CanBeResolved r (statement_of inner) × (AreFound p (jumps_of (statement_of inner)) × (is_action (statement_of inner) ≡ true))
  inner_ready i condition a inner is value ends =
      let same : statement_of x ≡ Statement.LogicalIf (tree_of condition) (statement_of inner) =
      ap statement_of is ∙ logical_view condition a ∙ ap (λ z. Statement.LogicalIf (tree_of condition) (statement_of z)) (sym value) in
      let own = subst (CanBeResolved r) same ready in (
        record {
          names = own.names;
          kinds = (and_parts _ _ own.kinds).1;
          bounds = (and_parts _ _ own.bounds).1;
          kept = (and_parts _ _ own.kept).1;
        },
        (subst (λ s. AreFound p (jumps_of s)) same found, subst (HasEnd p i) same ends),
      )

-- no other statement may stand in a logical IF
pub no_action : (x : Stmt) → is_action (statement_of x) ≡ true → ((target : Ref) (value : Expr) → x ≢ Assign target value) → ((label : ℕ) → x ≢ Goto label)
    → ((labels : Vec ℕ Global) (value : Expr) → x ≢ ComputedGoto labels value) → ((value : Expr) (l m n : ℕ) → x ≢ ArithIf value l m n)
    → x ≢ Continue → x ≢ Return → x ≢ Stop → x ≢ Trap → ⊥
unfolding boxed.out-Stmt denote.Hole.Carrier.out
no_action (Assign target value) acts a g c i n r s t = a target value refl
no_action (Goto label) acts a g c i n r s t = g label refl
no_action (ComputedGoto labels value) acts a g c i n r s t = c labels value refl
no_action (ArithIf value l m k) acts a g c i n r s t = i value l m k refl
no_action Continue acts a g c i n r s t = n refl
no_action Return acts a g c i n r s t = r refl
no_action Stop acts a g c i n r s t = s refl
no_action Trap acts a g c i n r s t = t refl
no_action x acts a g c i n r s t = true≢false (sym acts ∙ ap is_action (fold_out-Stmt Statement stmt_step x))
