-- The tree of each form of expression.
use Rattle.f77_tree.proofs.Common.{map, ◌≡◌, ℕ, sym, ◌∙◌, ap, List, Bool, Vec, Option, Box, option_map, Global, tree_of, data_group_of, decl_of, trees, Tree}
use Rattle.f77_tree.proofs.Common.{expr_step, ref_step, reference_fields, Statement, statement_of, stmt_step, DataGroup, Decl, Stmt, Expr, Number, Truth}
use Rattle.f77_tree.proofs.Common.{rolls-Binary, rolls-Not, rolls-Number, rolls-Reference, rolls-Signed, rolls-Truth, Kind}
use Rattle.f77_tree.specs.declared.tree.Ref.{Ref}
use Rattle.f77_tree.specs.declared.operator.Operator.{Operator}
use Rattle.f77_tree.specs.declared.operator.Sign.{Sign}
use Rattle.f77_tree.specs.declared.tree.Expr.TheOpen.{Expr-F}
use Rattle.f77_tree.specs.declared.tree.Expr.TheFolds.{fold-roll-Expr, fold_out-Ref}
use Rattle.f77_tree.specs.declared.statement.Stmt.TheVariants.{rolls-Subroutine, rolls-Declare, rolls-Dimension, rolls-Preset, rolls-Assign, rolls-ComputedGoto}
use Rattle.f77_tree.specs.declared.statement.Stmt.TheVariants.{rolls-ArithIf, rolls-LogicalIf, rolls-BlockIf, rolls-ElseIf, rolls-Else, rolls-Loop, rolls-Goto}
use Rattle.f77_tree.specs.declared.statement.Stmt.TheVariants.{rolls-EndIf, rolls-Continue, rolls-Return, rolls-Stop, rolls-Trap, rolls-End}
use Rattle.f77_tree.specs.declared.statement.Stmt.TheOpen.{Stmt-F}
use Rattle.f77_tree.specs.declared.statement.Stmt.TheFolds.{fold-roll-Stmt, fold_out-Stmt}
use Rattle.f77_tree.specs.declared.tree.Expr.TheViews as views
use Rattle.f77_tree.specs.declared.statement.Stmt.TheVariants as forms
use Rattle.f77_tree.specs.declared.statement.Stmt.TheViews as boxed
use Rattle.f77_tree.specs.declared.statement.Stmt as inside

pub number_view : (n : ℕ) → tree_of (Number n) ≡ Tree.Number n
number_view n = ap tree_of (sym (rolls-Number n)) ∙ fold-roll-Expr Tree (List ℕ × List Tree) expr_step ref_step (Expr-F.Number n)

pub truth_view : (b : Bool) → tree_of (Truth b) ≡ Tree.Truth b
truth_view b = ap tree_of (sym (rolls-Truth b)) ∙ fold-roll-Expr Tree (List ℕ × List Tree) expr_step ref_step (Expr-F.Truth b)

pub signed_view : (sign : Sign) (a : Box Expr Global) → tree_of (views.Signed sign a) ≡ Tree.Signed sign (tree_of a.value)
signed_view sign a = ap tree_of (sym (rolls-Signed sign a)) ∙ fold-roll-Expr Tree (List ℕ × List Tree) expr_step ref_step (Expr-F.Signed sign a)

pub not_view : (a : Box Expr Global) → tree_of (views.Not a) ≡ Tree.Not (tree_of a.value)
not_view a = ap tree_of (sym (rolls-Not a)) ∙ fold-roll-Expr Tree (List ℕ × List Tree) expr_step ref_step (Expr-F.Not a)

pub binary_view : (op : Operator) (a b : Box Expr Global) → tree_of (views.Binary op a b) ≡ Tree.Binary op (tree_of a.value) (tree_of b.value)
binary_view op a b = ap tree_of (sym (rolls-Binary op a b)) ∙ fold-roll-Expr Tree (List ℕ × List Tree) expr_step ref_step (Expr-F.Binary op a b)

pub reference_view : (r : Ref) → tree_of (views.Reference r) ≡ Tree.Reference r.name (trees (map tree_of r.subscripts.items))
reference_view r =
    ap tree_of (sym (rolls-Reference r)) ∙ fold-roll-Expr Tree (List ℕ × List Tree) expr_step ref_step (Expr-F.Reference r)
    ∙ ap (λ x. Tree.Reference x.0 (trees x.1)) (fold_out-Ref Tree (List ℕ × List Tree) expr_step ref_step r)

pub ref_view : (r : Ref) → reference_fields r ≡ (r.name, map tree_of r.subscripts.items)
ref_view r = fold_out-Ref Tree (List ℕ × List Tree) expr_step ref_step r

-- the statement of each form
pub subroutine_view : (name : List ℕ) (arguments : Vec (List ℕ) Global) → statement_of (forms.Subroutine name arguments) ≡ Statement.Subroutine name arguments.items
subroutine_view name arguments = ap statement_of (sym (rolls-Subroutine name arguments)) ∙ fold-roll-Stmt Statement stmt_step (Stmt-F.Subroutine name arguments)

pub declare_view : (kind : Kind) (items : Vec Decl Global) → statement_of (forms.Declare kind items) ≡ Statement.Declare kind (map decl_of items.items)
declare_view kind items = ap statement_of (sym (rolls-Declare kind items)) ∙ fold-roll-Stmt Statement stmt_step (Stmt-F.Declare kind items)

pub dimension_view : (items : Vec Decl Global) → statement_of (forms.Dimension items) ≡ Statement.Dimension (map decl_of items.items)
dimension_view items = ap statement_of (sym (rolls-Dimension items)) ∙ fold-roll-Stmt Statement stmt_step (Stmt-F.Dimension items)

pub preset_view : (groups : Vec DataGroup Global) → statement_of (forms.Preset groups) ≡ Statement.Preset (map data_group_of groups.items)
preset_view groups = ap statement_of (sym (rolls-Preset groups)) ∙ fold-roll-Stmt Statement stmt_step (Stmt-F.Preset groups)

pub assign_view : (target : Ref) (value : Expr) → statement_of (forms.Assign target value) ≡ Statement.Assign (reference_fields target).0 (trees (reference_fields target).1) (tree_of value)
assign_view target value = ap statement_of (sym (rolls-Assign target value)) ∙ fold-roll-Stmt Statement stmt_step (Stmt-F.Assign target value)

pub computed_view : (labels : Vec ℕ Global) (value : Expr) → statement_of (forms.ComputedGoto labels value) ≡ Statement.ComputedGoto labels.items (tree_of value)
computed_view labels value = ap statement_of (sym (rolls-ComputedGoto labels value)) ∙ fold-roll-Stmt Statement stmt_step (Stmt-F.ComputedGoto labels value)

pub arithmetic_view : (value : Expr) (l m n : ℕ) → statement_of (forms.ArithIf value l m n) ≡ Statement.ArithIf (tree_of value) l m n
arithmetic_view value l m n = ap statement_of (sym (rolls-ArithIf value l m n)) ∙ fold-roll-Stmt Statement stmt_step (Stmt-F.ArithIf value l m n)

pub logical_view : (condition : Expr) (a : Box Stmt Global) → statement_of (boxed.LogicalIf condition a) ≡ Statement.LogicalIf (tree_of condition) (statement_of a.value)
logical_view condition a = ap statement_of (sym (rolls-LogicalIf condition a)) ∙ fold-roll-Stmt Statement stmt_step (Stmt-F.LogicalIf condition a)

pub block_view : (condition : Expr) → statement_of (forms.BlockIf condition) ≡ Statement.BlockIf (tree_of condition)
block_view condition = ap statement_of (sym (rolls-BlockIf condition)) ∙ fold-roll-Stmt Statement stmt_step (Stmt-F.BlockIf condition)

pub else_if_view : (condition : Expr) → statement_of (forms.ElseIf condition) ≡ Statement.ElseIf (tree_of condition)
else_if_view condition = ap statement_of (sym (rolls-ElseIf condition)) ∙ fold-roll-Stmt Statement stmt_step (Stmt-F.ElseIf condition)

pub loop_view : (label : ℕ) (variable : List ℕ) (first last : Expr) (step : Option Expr)
    → statement_of (forms.Loop label variable first last step) ≡ Statement.Loop label variable (tree_of first) (tree_of last) (option_map tree_of step)
loop_view label variable first last step =
    ap statement_of (sym (rolls-Loop label variable first last step)) ∙ fold-roll-Stmt Statement stmt_step (Stmt-F.Loop label variable first last step)

pub else_view : statement_of forms.Else ≡ Statement.Else
else_view = ap statement_of (sym rolls-Else) ∙ fold-roll-Stmt Statement stmt_step Stmt-F.Else

pub goto_view : (label : ℕ) → statement_of (forms.Goto label) ≡ Statement.Goto label
goto_view label = ap statement_of (sym (rolls-Goto label)) ∙ fold-roll-Stmt Statement stmt_step (Stmt-F.Goto label)

pub end_if_view : statement_of forms.EndIf ≡ Statement.EndIf
end_if_view = ap statement_of (sym rolls-EndIf) ∙ fold-roll-Stmt Statement stmt_step Stmt-F.EndIf

pub continue_view : statement_of forms.Continue ≡ Statement.Continue
continue_view = ap statement_of (sym rolls-Continue) ∙ fold-roll-Stmt Statement stmt_step Stmt-F.Continue

pub return_view : statement_of forms.Return ≡ Statement.Return
return_view = ap statement_of (sym rolls-Return) ∙ fold-roll-Stmt Statement stmt_step Stmt-F.Return

pub stop_view : statement_of forms.Stop ≡ Statement.Stop
stop_view = ap statement_of (sym rolls-Stop) ∙ fold-roll-Stmt Statement stmt_step Stmt-F.Stop

pub trap_view : statement_of forms.Trap ≡ Statement.Trap
trap_view = ap statement_of (sym rolls-Trap) ∙ fold-roll-Stmt Statement stmt_step Stmt-F.Trap

pub end_view : statement_of forms.End ≡ Statement.End
end_view = ap statement_of (sym rolls-End) ∙ fold-roll-Stmt Statement stmt_step Stmt-F.End

pub inner_view : (condition : Expr) (pointer : _) (a : Stmt) → statement_of (inside.LogicalIf' condition pointer a) ≡ Statement.LogicalIf (tree_of condition) (statement_of a)
unfolding boxed.out-Stmt denote.Hole.Carrier.out
inner_view condition pointer a = fold_out-Stmt Statement stmt_step (inside.LogicalIf' condition pointer a)
