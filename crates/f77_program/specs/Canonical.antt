-- The canonical texts of expressions and statements.
use Rattle.std.specs.Prelude.{ℕ, List, [], ◌∷◌, ◌++◌, nat_lt, if◌then◌else◌, codes, Option, Some, None}
use Rattle.std.specs.Fmt.{decimal}
use Rattle.f77_tree.specs.Operator.{symbol, sign_symbol, level, left_level, right_level}
use Rattle.f77_tree.specs.Intrinsic.{function_name}
use Rattle.f77_tree.specs.Grammar.{truth_constant_text}
use Rattle.f77_tree.specs.Joined.{separated}
use Rattle.f77_program.specs.Declaration.{declarations_text}
use Rattle.f77_program.specs.Data.{groups_text, name_text}
use Rattle.f77_tree.specs.StatementGrammar.{kind_keyword}
use Rattle.f77_tree.specs.Tree.{Tree, Trees}
use Rattle.f77_tree.specs.Statement.{Statement}

-- the level of an expression's own form
abbrev pub own_level : Tree → ℕ
own_level (Tree.Number n) = 9
own_level (Tree.Truth b) = 9
own_level (Tree.Reference name items) = 9
own_level (Tree.Call f items) = 9
own_level (Tree.Signed sign t) = 6
own_level (Tree.Not t) = 4
own_level (Tree.Binary op a b) = level op
own_level (Tree.ZeroPush t) = 9

-- Rule: canonical text, printing
-- an operand as text, in parentheses exactly where its level is below the wanted one
abbrev pub operand : ℕ → ℕ → List ℕ → List ℕ
operand wanted own text = if nat_lt own wanted then 40 ∷ (text ++ 41 ∷ []) else text

abbrev mutual
  pub text_of : Tree → List ℕ
  text_of (Tree.Number n) = decimal n
  text_of (Tree.Truth b) = truth_constant_text b
  text_of (Tree.Reference name items) = name ++ list_text items
  text_of (Tree.Call f items) = function_name f ++ list_text items
  text_of (Tree.Signed sign t) = sign_symbol sign ∷ operand 7 (own_level t) (text_of t)
  text_of (Tree.Not t) = codes ".NOT." ++ operand 5 (own_level t) (text_of t)
  text_of (Tree.Binary op a b) =
      operand (left_level op) (own_level a) (text_of a)
      ++ (symbol op ++ operand (right_level op) (own_level b) (text_of b))
  text_of (Tree.ZeroPush t) = codes "ZPUSH(" ++ (text_of t ++ 41 ∷ [])

  -- expressions in parentheses, and nothing where there are none
  pub list_text : Trees → List ℕ
  list_text Trees.None = []
  list_text (Trees.Then t ts) = 40 ∷ ((text_of t ++ rest_text 44 ts) ++ 41 ∷ [])

  -- expressions as text: the character c before the first, a comma before each other
  pub rest_text : ℕ → Trees → List ℕ
  rest_text c Trees.None = []
  rest_text c (Trees.Then t ts) = c ∷ (text_of t ++ rest_text 44 ts)

-- the third parameter of a DO as text, behind a comma, if there is one
abbrev pub step_text : Option Tree → List ℕ
step_text None = []
step_text (Some t) = 44 ∷ text_of t

-- Rule: canonical text, printing
-- the canonical text of a statement, with one blank behind a keyword that something follows
abbrev pub statement_text : Statement → List ℕ
statement_text (Statement.Subroutine name []) = codes "SUBROUTINE " ++ name
statement_text (Statement.Subroutine name (n ∷ names)) =
    codes "SUBROUTINE " ++ (name ++ (separated name_text (codes "(") (n ∷ names) ++ 41 ∷ []))
statement_text (Statement.Declare kind ds) = kind_keyword kind ++ (32 ∷ declarations_text ds)
statement_text (Statement.Dimension ds) = codes "DIMENSION " ++ declarations_text ds
statement_text (Statement.Preset gs) = codes "DATA " ++ groups_text gs
statement_text (Statement.Assign name items t) = (name ++ list_text items) ++ (61 ∷ text_of t)
statement_text (Statement.Goto label) = codes "GO TO " ++ decimal label
statement_text (Statement.ComputedGoto labels t) =
    codes "GO TO " ++ (separated decimal (codes "(") labels ++ (codes ")," ++ text_of t))
statement_text (Statement.ArithIf t l m n) = codes "IF ("
    ++ (text_of t ++ (codes ") " ++ (decimal l ++ (44 ∷ (decimal m ++ (44 ∷ decimal n))))))
statement_text (Statement.LogicalIf t s) =
    codes "IF (" ++ (text_of t ++ (codes ") " ++ statement_text s))
statement_text (Statement.BlockIf t) = codes "IF (" ++ (text_of t ++ codes ") THEN")
statement_text (Statement.ElseIf t) = codes "ELSE IF (" ++ (text_of t ++ codes ") THEN")
statement_text Statement.Else = codes "ELSE"
statement_text Statement.EndIf = codes "END IF"
statement_text (Statement.Loop label name a b c) =
    codes "DO " ++ (decimal label
    ++ (32 ∷ (name ++ (61 ∷ (text_of a ++ (44 ∷ (text_of b ++ step_text c)))))))
statement_text Statement.Continue = codes "CONTINUE"
statement_text Statement.Return = codes "RETURN"
statement_text Statement.Stop = codes "STOP"
statement_text Statement.Trap = codes "TRAP"
statement_text Statement.End = codes "END"
