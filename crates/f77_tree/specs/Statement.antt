-- Statements as trees (ANSI X3.9-1978, section 7), without the memory in which they lie.
use Rattle.std.specs.Prelude.{ℕ, ◌==◌, nat_eq, List, [], ◌∷◌, Bool, true}
use Rattle.std.specs.Prelude.{false, ◌&&◌, Option, Some, None, option_map, map}
use Rattle.std.specs.Cmp.Lexicographic.{pointwise}
use Rattle.std.specs.Option.{option_eq}
use Rattle.std.specs.Str.{bytes_eq}
use Rattle.f77_tree.specs.declared.form.Form.{Form}
use Rattle.f77_tree.specs.Form.{is_executable}
use Rattle.f77_tree.specs.declared.statement.Stmt.{Stmt}
use Rattle.f77_tree.specs.declared.statement.Stmt.TheOpen.{Stmt-F}
use Rattle.f77_tree.specs.declared.statement.Stmt.TheFolds.{fold-Stmt}
use Rattle.f77_tree.specs.declared.tree.Kind.{Kind}
use Rattle.f77_tree.specs.Comparing.{same_kind, same_tree, same_trees, same_decl, same_group}
use Rattle.f77_tree.specs.Data.{data_group_of}
use Rattle.f77_tree.specs.Declaration.{decl_of}
use Rattle.f77_tree.specs.Joined.{has_items}
use Rattle.f77_tree.specs.Tree.{Tree, Trees, DeclFields, GroupFields}
use Rattle.f77_tree.specs.View.{trees, tree_of, reference_fields}

-- a statement (ANSI X3.9-1978, section 7); only mutants have Trap
pub data Statement : Type 0 where
  Subroutine : List ℕ → List (List ℕ) → Statement
  Declare : Kind → List DeclFields → Statement
  Dimension : List DeclFields → Statement
  Preset : List GroupFields → Statement
  Assign : List ℕ → Trees → Tree → Statement
  Goto : ℕ → Statement
  ComputedGoto : List ℕ → Tree → Statement
  ArithIf : Tree → ℕ → ℕ → ℕ → Statement
  LogicalIf : Tree → Statement → Statement
  BlockIf : Tree → Statement
  ElseIf : Tree → Statement
  Else : Statement
  EndIf : Statement
  Loop : ℕ → List ℕ → Tree → Tree → Option Tree → Statement
  Continue : Statement
  Return : Statement
  Stop : Statement
  Trap : Statement
  End : Statement

abbrev pub stmt_step : Stmt-F Statement → Statement
stmt_step (Stmt-F.Subroutine name arguments) = Statement.Subroutine name arguments.items
stmt_step (Stmt-F.Declare kind items) = Statement.Declare kind (map decl_of items.items)
stmt_step (Stmt-F.Dimension items) = Statement.Dimension (map decl_of items.items)
stmt_step (Stmt-F.Preset groups) = Statement.Preset (map data_group_of groups.items)
stmt_step (Stmt-F.Assign target value) =
    Statement.Assign (reference_fields target).0 (trees (reference_fields target).1) (tree_of value)
stmt_step (Stmt-F.Goto label) = Statement.Goto label
stmt_step (Stmt-F.ComputedGoto labels value) = Statement.ComputedGoto labels.items (tree_of value)
stmt_step (Stmt-F.ArithIf value negative zero positive) =
    Statement.ArithIf (tree_of value) negative zero positive
stmt_step (Stmt-F.LogicalIf condition statement) =
    Statement.LogicalIf (tree_of condition) statement.value
stmt_step (Stmt-F.BlockIf condition) = Statement.BlockIf (tree_of condition)
stmt_step (Stmt-F.ElseIf condition) = Statement.ElseIf (tree_of condition)
stmt_step Stmt-F.Else = Statement.Else
stmt_step Stmt-F.EndIf = Statement.EndIf
stmt_step (Stmt-F.Loop label variable first last step) =
    Statement.Loop label variable (tree_of first) (tree_of last) (option_map tree_of step)
stmt_step Stmt-F.Continue = Statement.Continue
stmt_step Stmt-F.Return = Statement.Return
stmt_step Stmt-F.Stop = Statement.Stop
stmt_step Stmt-F.Trap = Statement.Trap
stmt_step Stmt-F.End = Statement.End

-- the view of a statement
abbrev pub statement_of : Stmt → Statement
statement_of = fold-Stmt Statement stmt_step

-- the form of a statement: what it is, apart from what it names and computes (7.1)
abbrev pub form_of : Statement → Form
form_of (Statement.Subroutine name names) = Form.Subroutine
form_of (Statement.Declare kind declarations) = Form.Declare
form_of (Statement.Dimension declarations) = Form.Dimension
form_of (Statement.Preset groups) = Form.Preset
form_of (Statement.Assign name items tree) = Form.Assign
form_of (Statement.Goto label) = Form.Goto
form_of (Statement.ComputedGoto labels tree) = Form.ComputedGoto
form_of (Statement.ArithIf tree first second third) = Form.ArithIf
form_of (Statement.LogicalIf tree statement) = Form.LogicalIf
form_of (Statement.BlockIf tree) = Form.BlockIf
form_of (Statement.ElseIf tree) = Form.ElseIf
form_of Statement.Else = Form.Else
form_of Statement.EndIf = Form.EndIf
form_of (Statement.Loop label name first last step) = Form.Loop
form_of Statement.Continue = Form.Continue
form_of Statement.Return = Form.Return
form_of Statement.Stop = Form.Stop
form_of Statement.Trap = Form.Trap
form_of Statement.End = Form.End

-- the statement is executable (ANSI X3.9-1978, 7.1)
abbrev pub is_executable_statement : Statement → Bool
is_executable_statement s = is_executable (form_of s)

-- the expression that a statement assigns, tests or chooses by; a DO has parameters instead
abbrev pub value_of : Statement → Option Tree
value_of (Statement.Assign name items t) = Some t
value_of (Statement.ComputedGoto labels t) = Some t
value_of (Statement.ArithIf t l m n) = Some t
value_of (Statement.LogicalIf t s) = Some t
value_of (Statement.BlockIf t) = Some t
value_of (Statement.ElseIf t) = Some t
value_of _ = None

-- the labels to which control may go from a statement (11.1, 11.2, 11.4, 11.5)
abbrev pub jumps_of : Statement → List ℕ
jumps_of (Statement.Goto label) = label ∷ []
jumps_of (Statement.ComputedGoto labels t) = labels
jumps_of (Statement.ArithIf t l m n) = l ∷ (m ∷ (n ∷ []))
jumps_of (Statement.LogicalIf t s) = jumps_of s
jumps_of _ = []

-- the GO TO, or computed GO TO, with other labels
abbrev pub with_labels : Statement → List ℕ → Statement
with_labels (Statement.Goto label) (other ∷ others) = Statement.Goto other
with_labels (Statement.ComputedGoto labels t) others = Statement.ComputedGoto others t
with_labels s others = s

-- the statement with another expression that it assigns, tests or chooses by
abbrev pub with_value : Statement → Tree → Statement
with_value (Statement.Assign name items t) u = Statement.Assign name items u
with_value (Statement.ComputedGoto labels t) u = Statement.ComputedGoto labels u
with_value (Statement.ArithIf t l m n) u = Statement.ArithIf u l m n
with_value (Statement.LogicalIf t s) u = Statement.LogicalIf u s
with_value (Statement.BlockIf t) u = Statement.BlockIf u
with_value (Statement.ElseIf t) u = Statement.ElseIf u
with_value s u = s

-- the statement is no computed GO TO without a label (11.2)
abbrev pub has_labels : Statement → Bool
has_labels (Statement.ComputedGoto labels t) = has_items labels
has_labels _ = true

-- What is put in the place of each part of a statement: of its names, declared names, groups of
-- DATA, subscripts, expressions and labels.
pub record Change : Type 0 where
  pub name : List ℕ → List ℕ
  pub names : List (List ℕ) → List (List ℕ)
  pub declared : List DeclFields → List DeclFields
  pub groups : List GroupFields → List GroupFields
  pub items : Trees → Trees
  pub tree : Tree → Tree
  pub label : ℕ → ℕ
  pub labels : List ℕ → List ℕ

-- the statement of the same form with each part changed
abbrev pub changed_by : Change → Statement → Statement
changed_by change (Statement.Subroutine name names) =
    Statement.Subroutine (change.name name) (change.names names)
changed_by change (Statement.Declare kind ds) = Statement.Declare kind (change.declared ds)
changed_by change (Statement.Dimension ds) = Statement.Dimension (change.declared ds)
changed_by change (Statement.Preset gs) = Statement.Preset (change.groups gs)
changed_by change (Statement.Assign name items t) =
    Statement.Assign (change.name name) (change.items items) (change.tree t)
changed_by change (Statement.Goto label) = Statement.Goto (change.label label)
changed_by change (Statement.ComputedGoto labels t) =
    Statement.ComputedGoto (change.labels labels) (change.tree t)
changed_by change (Statement.ArithIf t l m n) =
    Statement.ArithIf (change.tree t) (change.label l) (change.label m) (change.label n)
changed_by change (Statement.LogicalIf t s) =
    Statement.LogicalIf (change.tree t) (changed_by change s)
changed_by change (Statement.BlockIf t) = Statement.BlockIf (change.tree t)
changed_by change (Statement.ElseIf t) = Statement.ElseIf (change.tree t)
changed_by change (Statement.Loop label name a b c) =
    Statement.Loop (change.label label) (change.name name) (change.tree a) (change.tree b)
    (option_map change.tree c)
changed_by change statement = statement

-- statements are the same if they have one form and their parts are the same
abbrev pub same_statement : Statement → Statement → Bool
same_statement (Statement.Subroutine name names) (Statement.Subroutine other others) =
    bytes_eq name other && pointwise bytes_eq names others
same_statement (Statement.Declare kind ds) (Statement.Declare other es) =
    same_kind kind other && pointwise same_decl ds es
same_statement (Statement.Dimension ds) (Statement.Dimension es) = pointwise same_decl ds es
same_statement (Statement.Preset gs) (Statement.Preset hs) = pointwise same_group gs hs
same_statement (Statement.Assign name items t) (Statement.Assign other others u) =
    (bytes_eq name other && same_trees items others) && same_tree t u
same_statement (Statement.Goto l) (Statement.Goto m) = l == m
same_statement (Statement.ComputedGoto ls t) (Statement.ComputedGoto ms u) =
    pointwise nat_eq ls ms && same_tree t u
same_statement (Statement.ArithIf t l m n) (Statement.ArithIf u i j k) =
    same_tree t u && (l == i && (m == j && n == k))
same_statement (Statement.LogicalIf t a) (Statement.LogicalIf u b) =
    same_tree t u && same_statement a b
same_statement (Statement.BlockIf t) (Statement.BlockIf u) = same_tree t u
same_statement (Statement.ElseIf t) (Statement.ElseIf u) = same_tree t u
same_statement Statement.Else Statement.Else = true
same_statement Statement.EndIf Statement.EndIf = true
same_statement (Statement.Loop l name a b c) (Statement.Loop m other d e f) =
    l == m && (bytes_eq name other && (same_tree a d && (same_tree b e && option_eq same_tree c f)))
same_statement Statement.Continue Statement.Continue = true
same_statement Statement.Return Statement.Return = true
same_statement Statement.Stop Statement.Stop = true
same_statement Statement.Trap Statement.Trap = true
same_statement Statement.End Statement.End = true
same_statement _ _ = false
