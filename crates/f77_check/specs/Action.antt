-- Which action is that of which statement, by cases on both. Statements are numbered from 0 here.
use Rattle.std.specs.Prelude.{◌≡◌, ⊤, ℕ, List, Option, Some, None, pos}
use Rattle.std.specs.List.{AllZip}
use Rattle.f77_program.specs.Program.{LineFields}
use Rattle.f77_tree.specs.Tree.{Tree, Trees}
use Rattle.f77_tree.specs.Statement.{Statement}
use Rattle.f77_tree.specs.declared.tree.Kind.{Kind}
use Rattle.f77_tree.specs.declared.tree.Kind.TheVariants.{Integer, Logical}
use Rattle.f77_actions.specs.declared.action.Action.{Action, Declaration, AssignNumber, AssignTruth}
use Rattle.f77_actions.specs.declared.action.Action.{Goto, ComputedGoto, ArithmeticIf, LogicalIf'}
use Rattle.f77_actions.specs.declared.action.Action.{Branch, Continue, Loop, Return, Stop, Trap}
use Rattle.f77_actions.specs.declared.action.Jump.{Jump}
use Rattle.f77_actions.specs.declared.expression.Number.{Number}
use Rattle.f77_actions.specs.declared.expression.Number as number
use Rattle.f77_legal.specs.Blocks.{branch_end}
use Rattle.f77_check.specs.Expression.{IsElement, IsNumber, IsCondition}
use Rattle.f77_legal.specs.Labels.{label_place}
use Rattle.f77_legal.specs.Loops.{terminal, left_by}
use Rattle.f77_legal.specs.Names.{Symbol}
use Rattle.f77_check.specs.Slots.{first_slot}

-- the jump leads from i to the statement with this label
pub record IsJump (program : List LineFields) (i label : ℕ) (jump : Jump) : Type 0 where
  pub target : label_place program label ≡ Some jump.target
  pub leaves : jump.leaves.items ≡ left_by program i jump.target

-- the jumps lead from i to the statements with these labels, in order
abbrev pub AreJumps : List LineFields → ℕ → List ℕ → List Jump → Type 0
AreJumps program i labels jumps = AllZip (IsJump program i) labels jumps

-- the incrementation parameter of a DO, which is 1 where none is written
abbrev pub IsIncrementation : (Symbol → List ℕ) → List Symbol → Option Tree → Number → Type 0
IsIncrementation bounds names None step = step ≡ number.Constant (pos 1)
IsIncrementation bounds names (Some tree) step = IsNumber bounds names tree step

-- the action is an assignment, by the kind of its target
abbrev pub IsAssignment : (Symbol → Kind)
    → (Symbol → List ℕ) → List Symbol → Symbol → Trees → Tree → Action → Type 0
IsAssignment kinds bounds names name items tree (AssignNumber element value) =
    (kinds name ≡ Integer)
    × IsElement bounds names name items element × IsNumber bounds names tree value
IsAssignment kinds bounds names name items tree (AssignTruth element value) =
    (kinds name ≡ Logical)
    × IsElement bounds names name items element × IsCondition bounds names tree value
IsAssignment kinds bounds names name items tree _ = ⊥

-- The action is that of statement i, where names have these kinds and bounds, and slots in the
-- order of this list.
abbrev pub IsAction : (Symbol → Kind)
    → (Symbol → List ℕ) → List Symbol → List LineFields → ℕ → Statement → Action → Type 0
IsAction kinds bounds names program i (Statement.Subroutine name dummies) Declaration = ⊤
IsAction kinds bounds names program i (Statement.Declare kind declarations) Declaration = ⊤
IsAction kinds bounds names program i (Statement.Dimension declarations) Declaration = ⊤
IsAction kinds bounds names program i (Statement.Preset groups) Declaration = ⊤
IsAction kinds bounds names program i (Statement.Assign name items tree) action =
    IsAssignment kinds bounds names name items tree action
IsAction kinds bounds names program i (Statement.Goto label) (Goto jump) =
    IsJump program i label jump
IsAction kinds bounds names program i (Statement.ComputedGoto labels tree)
    (ComputedGoto value jumps) =
    IsNumber bounds names tree value × AreJumps program i labels jumps.items
IsAction kinds bounds names program i (Statement.ArithIf tree first second third)
    (ArithmeticIf value negative middle positive) =
    IsNumber bounds names tree value × IsJump program i first negative
    × IsJump program i second middle × IsJump program i third positive
IsAction kinds bounds names program i (Statement.LogicalIf tree statement)
    (LogicalIf' condition _ action) =
    IsCondition bounds names tree condition × IsAction kinds bounds names program i statement action
IsAction kinds bounds names program i (Statement.BlockIf tree) (Branch condition otherwise) =
    IsCondition bounds names tree condition × (branch_end program i ≡ Some otherwise)
IsAction kinds bounds names program i (Statement.ElseIf tree) (Branch condition otherwise) =
    IsCondition bounds names tree condition × (branch_end program i ≡ Some otherwise)
IsAction kinds bounds names program i Statement.Else Continue = ⊤
IsAction kinds bounds names program i Statement.EndIf Continue = ⊤
IsAction kinds bounds names program i (Statement.Loop label name first last step)
    (Loop variable from to by last_statement) =
    (first_slot bounds names name ≡ Some variable)
    × IsNumber bounds names first from
    × IsNumber bounds names last to
    × IsIncrementation bounds names step by
    × (terminal program i ≡ Some last_statement)
IsAction kinds bounds names program i Statement.Continue Continue = ⊤
IsAction kinds bounds names program i Statement.Return Return = ⊤
IsAction kinds bounds names program i Statement.Stop Stop = ⊤
IsAction kinds bounds names program i Statement.Trap Trap = ⊤
IsAction kinds bounds names program i Statement.End Return = ⊤
IsAction kinds bounds names program i _ _ = ⊥
