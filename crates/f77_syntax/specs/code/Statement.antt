-- Reading a statement: by its class, and then by its keyword.
use Rattle.std.specs.Prelude.{ℕ, ◌==◌, List, [], ◌∷◌, length, Option, Some, None, Bool, false, if◌then◌else◌, codes}
use Rattle.std.specs.Str.{bytes_eq}
use Rattle.f77_tree.specs.Grammar.{is_digit}
use Rattle.f77_tree.specs.Tree.{Tree}
use Rattle.f77_tree.specs.Statement.{Statement}
use Rattle.f77_program.specs.Formed.{is_action}
use Rattle.f77_syntax.specs.Reading.{◌>>=◌, strip}
use Rattle.f77_syntax.specs.code.Reading.{behind}
use Rattle.f77_syntax.specs.code.Assignment.{assign_at}
use Rattle.f77_syntax.specs.code.Goto.{goto_at}
use Rattle.f77_syntax.specs.code.Condition.{arithmetic_at, condition_at}
use Rattle.f77_syntax.specs.code.Subroutine.{subroutine_at}
use Rattle.f77_syntax.specs.code.Declaration.{declared_at, dimension_at}
use Rattle.f77_syntax.specs.code.Data.{data_at}
use Rattle.f77_tree.specs.declared.tree.Kind.TheVariants.{Integer, Logical}
use Rattle.f77_syntax.specs.code.DoLoop.{loop_at}
use Rattle.f77_syntax.specs.Classification.{class_of}
use Rattle.f77_syntax.specs.declared.classification.Class.{Class}
use Rattle.f77_syntax.specs.declared.classification.Class.TheVariants.{If, Loop, Assignment, Keyword}

-- the statements that consist of one keyword
unfoldable pub word_statement : List ℕ → Option Statement
word_statement s =
    if bytes_eq s (codes "CONTINUE") then Some Statement.Continue
    else (if bytes_eq s (codes "RETURN") then Some Statement.Return
    else (if bytes_eq s (codes "STOP") then Some Statement.Stop
    else (if bytes_eq s (codes "ENDIF") then Some Statement.EndIf
    else (if bytes_eq s (codes "END") then Some Statement.End
    else None))))

-- a GO TO, or a statement of one keyword alone
unfoldable pub simple_at : List ℕ → Option Statement
simple_at s = behind (strip (codes "GOTO") s) goto_at (word_statement s)

abbrev pub actions_only : Statement → Option Statement
actions_only s = if is_action s then Some s else None

unfoldable pub simple_action_at : List ℕ → Option Statement
simple_action_at s = simple_at s >>= actions_only

-- the statement of a class, where it may stand in a logical IF
abbrev pub action_by : Class → List ℕ → Option Statement
action_by If s = condition_at s >>= λ x. arithmetic_at x.0 x.1
action_by Loop s = None
action_by Assignment s = assign_at s
action_by Keyword s = simple_action_at s

-- a statement that may stand in a logical IF (ANSI X3.9-1978, 11.5)
unfoldable pub action_at : List ℕ → Option Statement
action_at s = action_by (class_of s) s

abbrev pub begins_digit : List ℕ → Bool
begins_digit [] = false
begins_digit (c ∷ s) = is_digit c

-- an IF, from the text behind its condition (ANSI X3.9-1978, 11.4 to 11.6)
unfoldable pub branch_at : Tree → List ℕ → Option Statement
branch_at t s =
    if bytes_eq s (codes "THEN") then Some (Statement.BlockIf t)
    else (if begins_digit s then arithmetic_at t s
    else (action_at s >>= λ a. Some (Statement.LogicalIf t a)))

-- ELSE or ELSE IF, from the text behind the keyword ELSE (ANSI X3.9-1978, 11.7 and 11.8)
unfoldable pub else_at : List ℕ → Option Statement
else_at s =
    if length s == 0 then Some Statement.Else
    else (condition_at s >>= λ x. if bytes_eq x.1 (codes "THEN") then Some (Statement.ElseIf x.0) else None)

-- a statement by its keyword
unfoldable pub keyword_at : List ℕ → Option Statement
keyword_at s =
    behind (strip (codes "SUBROUTINE") s) subroutine_at
    (behind (strip (codes "ELSE") s) else_at
    (behind (strip (codes "INTEGER") s) (declared_at Integer)
    (behind (strip (codes "LOGICAL") s) (declared_at Logical)
    (behind (strip (codes "DIMENSION") s) dimension_at
    (behind (strip (codes "DATA") s) data_at
    (simple_at s))))))

abbrev pub statement_by : Class → List ℕ → Option Statement
statement_by If s = condition_at s >>= λ x. branch_at x.0 x.1
statement_by Loop s = loop_at s
statement_by Assignment s = assign_at s
statement_by Keyword s = keyword_at s

unfoldable pub statement_at : List ℕ → Option Statement
statement_at s = statement_by (class_of s) s
