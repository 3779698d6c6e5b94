-- Which blank-free texts spell which statements (ANSI
-- X3.9-1978, sections 7 to 11). Labels are of any length here.
use Rattle.std.specs.Prelude.{◌≡◌, ℕ, List, [], ◌∷◌, ◌++◌, length, Bool, true}
use Rattle.std.specs.Prelude.{false, nat_le, if◌then◌else◌, Some, None, map, codes}
use Rattle.std.specs.List.{list_all, join_with_byte}
use Rattle.std.specs.Str.Parse.{digits_value}
use Rattle.f77_tree.specs.declared.intrinsic.Intrinsic.TheVariants.{Iabs}
use Rattle.f77_tree.specs.Statement.{Statement, Change, changed_by}
use Rattle.f77_tree.specs.Tree.{Tree, Trees, DeclFields, GroupFields}
use Rattle.f77_tree.specs.Grammar.{is_number, is_name, Spells, SpellsReference}
use Rattle.f77_tree.specs.Names.{statement_names}
use Rattle.f77_tree.specs.Joined.{Joined}
use Rattle.f77_tree.specs.Declaration.{SpellsDecls, all_bounded}
use Rattle.f77_tree.specs.Data.{SpellsGroups}
use Rattle.f77_tree.specs.declared.tree.Kind.{Kind}
use Rattle.f77_tree.specs.declared.tree.Kind.TheVariants.{Integer, Logical}

-- Rule: which text is which statement (7 to 11)
-- the number of a label: more than five digits are out of range, whatever they are
unfoldable pub label_number : List ℕ → ℕ
label_number row = if nat_le (length row) 5 then digits_value 10 row else 100000

-- the digits spell the label
pub data SpellsLabel : List ℕ → ℕ → Type 0 where
  digits : (row : List ℕ) → is_number row ≡ true → SpellsLabel row (label_number row)

-- a comma that may be left out
abbrev pub optional_comma : Bool → List ℕ
optional_comma true = 44 ∷ []
optional_comma false = []

-- Rule: which text is which statement (7 to 11)
-- the text spells a statement that may stand in a logical IF
pub data SpellsAction : List ℕ → Statement → Type 0 where
  assign : {x y name : List ℕ} {items : Trees} {t : Tree}
      → SpellsReference x name items → Spells 1 y t
      → SpellsAction (x ++ (61 ∷ y)) (Statement.Assign name items t)
  go_to : (row : List ℕ) → is_number row ≡ true
      → SpellsAction (codes "GOTO" ++ row) (Statement.Goto (label_number row))
  computed_go_to : {x y : List ℕ} {labels : List ℕ} {t : Tree} (comma : Bool)
      → Joined SpellsLabel x labels → Spells 1 y t
      → SpellsAction (codes "GOTO(" ++ (x ++ (41 ∷ (optional_comma comma ++ y))))
      (Statement.ComputedGoto labels t)
  arithmetic_if : {x : List ℕ} {t : Tree} (l m n : List ℕ)
      → Spells 1 x t → is_number l ≡ true → is_number m ≡ true → is_number n ≡ true
      → SpellsAction (codes "IF(" ++ (x ++ (41 ∷ (l ++ (44 ∷ (m ++ (44 ∷ n)))))))
      (Statement.ArithIf t (label_number l) (label_number m) (label_number n))
  go_on : SpellsAction (codes "CONTINUE") Statement.Continue
  return : SpellsAction (codes "RETURN") Statement.Return
  stop : SpellsAction (codes "STOP") Statement.Stop

-- the keyword of a type statement
abbrev pub kind_keyword : Kind → List ℕ
kind_keyword Integer = codes "INTEGER"
kind_keyword Logical = codes "LOGICAL"

-- Rule: which text is which statement (7 to 11)
-- The text spells the statement. No word is reserved: the whole text decides which rule applies.
pub data SpellsStatement : List ℕ → Statement → Type 0 where
  action : {text : List ℕ} {s : Statement} → SpellsAction text s → SpellsStatement text s
  subroutine : {name : List ℕ} → is_name name ≡ true
      → SpellsStatement (codes "SUBROUTINE" ++ name) (Statement.Subroutine name [])
  subroutine_of : {name : List ℕ} (names : List (List ℕ))
      → is_name name ≡ true → list_all is_name names ≡ true
      → SpellsStatement
      (codes "SUBROUTINE" ++ (name ++ (40 ∷ (join_with_byte 44 names ++ 41 ∷ []))))
      (Statement.Subroutine name names)
  declare : {text : List ℕ} {ds : List DeclFields} (kind : Kind) → SpellsDecls text ds
      → SpellsStatement (kind_keyword kind ++ text) (Statement.Declare kind ds)
  dimension : {text : List ℕ} {ds : List DeclFields} → SpellsDecls text ds → all_bounded ds ≡ true
      → SpellsStatement (codes "DIMENSION" ++ text) (Statement.Dimension ds)
  preset : {text : List ℕ} {gs : List GroupFields}
      → SpellsGroups text gs → SpellsStatement (codes "DATA" ++ text) (Statement.Preset gs)
  logical_if : {x y : List ℕ} {t : Tree} {s : Statement} → Spells 1 x t → SpellsAction y s
      → SpellsStatement (codes "IF(" ++ (x ++ (41 ∷ y))) (Statement.LogicalIf t s)
  block_if : {x : List ℕ} {t : Tree}
      → Spells 1 x t → SpellsStatement (codes "IF(" ++ (x ++ codes ")THEN")) (Statement.BlockIf t)
  else_if : {x : List ℕ} {t : Tree} → Spells 1 x t
      → SpellsStatement (codes "ELSEIF(" ++ (x ++ codes ")THEN")) (Statement.ElseIf t)
  otherwise : SpellsStatement (codes "ELSE") Statement.Else
  end_if : SpellsStatement (codes "ENDIF") Statement.EndIf
  loop : {name x y : List ℕ} {a b : Tree} (row : List ℕ) (comma : Bool)
      → is_number row ≡ true → is_name name ≡ true → Spells 1 x a → Spells 1 y b
      → SpellsStatement
      (codes "DO" ++ (row ++ (optional_comma comma ++ (name ++ (61 ∷ (x ++ (44 ∷ y)))))))
      (Statement.Loop (label_number row) name a b None)
  loop_by : {name x y z : List ℕ} {a b c : Tree} (row : List ℕ) (comma : Bool)
      → is_number row ≡ true → is_name name ≡ true
      → Spells 1 x a → Spells 1 y b → Spells 1 z c
      → SpellsStatement (codes "DO"
      ++ (row ++ (optional_comma comma ++ (name ++ (61 ∷ (x ++ (44 ∷ (y ++ (44 ∷ z)))))))))
      (Statement.Loop (label_number row) name a b (Some c))
  end : SpellsStatement (codes "END") Statement.End

-- a label as a text may spell it: 100000 stands for each label that is out of range
abbrev pub label_in_text : ℕ → ℕ
label_in_text n = if nat_le n 99999 then n else 100000

-- an expression as a text may spell it: IABS stands for ZPUSH, which only mutants have
abbrev mutual
  pub tree_in_text : Tree → Tree
  tree_in_text (Tree.Number n) = Tree.Number n
  tree_in_text (Tree.Truth b) = Tree.Truth b
  tree_in_text (Tree.Reference name items) = Tree.Reference name (trees_in_text items)
  tree_in_text (Tree.Call f items) = Tree.Call f (trees_in_text items)
  tree_in_text (Tree.Signed sign t) = Tree.Signed sign (tree_in_text t)
  tree_in_text (Tree.Not t) = Tree.Not (tree_in_text t)
  tree_in_text (Tree.Binary op a b) = Tree.Binary op (tree_in_text a) (tree_in_text b)
  tree_in_text (Tree.ZeroPush t) = Tree.Call Iabs (Trees.Then (tree_in_text t) Trees.None)

  pub trees_in_text : Trees → Trees
  trees_in_text Trees.None = Trees.None
  trees_in_text (Trees.Then t ts) = Trees.Then (tree_in_text t) (trees_in_text ts)

-- each part of a statement as a text may spell it
abbrev pub parts_in_text : Change
parts_in_text = record {
  name = λ name. name;
  names = λ names. names;
  declared = λ ds. ds;
  groups = λ gs. gs;
  items = trees_in_text;
  tree = tree_in_text;
  label = label_in_text;
  labels = map label_in_text;
}

-- a statement as a text may spell it, sizes aside: CONTINUE stands for TRAP, which only mutants
-- have
abbrev pub in_text : Statement → Statement
in_text (Statement.LogicalIf t s) = Statement.LogicalIf (tree_in_text t) (in_text s)
in_text Statement.Trap = Statement.Continue
in_text s = changed_by parts_in_text s

-- Rule: what only mutants have; nodes
-- the statement has nothing that only mutants have
abbrev pub IsUnmutated : Statement → Type 0
IsUnmutated s = in_text s ≡ s

-- Rule: what only mutants have; nodes
-- some text spells the statement, and its names have at most six characters
abbrev pub IsFormed : Statement → Type 0
IsFormed s = (text : List ℕ) × SpellsStatement text (in_text s) × (statement_names s ≡ true)
