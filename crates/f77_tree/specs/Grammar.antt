-- Which blank-free texts spell which expressions (ANSI X3.9-1978,
-- sections 5 and 6). Names and constants are of any length here.
use Rattle.std.specs.Prelude.{◌≡◌, ℕ, ◌≤◌, List, [], ◌∷◌, ◌++◌, Bool, true, false}
use Rattle.std.specs.Prelude.{◌&&◌, ◌||◌, nat_le, is_some, codes, if◌then◌else◌}
use Rattle.std.specs.List.{list_all}
use Rattle.std.specs.Str.Parse.{digits_value}
use Rattle.f77_tree.specs.declared.intrinsic.Intrinsic.{Intrinsic}
use Rattle.f77_tree.specs.declared.operator.Operator.{Operator}
use Rattle.f77_tree.specs.declared.operator.Sign.{Sign}
use Rattle.f77_tree.specs.Intrinsic.{function_name, function_named}
use Rattle.f77_tree.specs.Operator.{symbol, sign_symbol, level, left_level, right_level}
use Rattle.f77_tree.specs.Tree.{Tree, Trees}

-- an upper-case letter (3.1.1)
abbrev pub is_letter : ℕ → Bool
is_letter c = nat_le 65 c && nat_le c 90

-- a digit (3.1.2)
abbrev pub is_digit : ℕ → Bool
is_digit c = nat_le 48 c && nat_le c 57

-- a letter or a digit, as in a name
abbrev pub is_word : ℕ → Bool
is_word c = is_letter c || is_digit c

-- a name: letters and digits, the first of them a letter (2.2)
abbrev pub is_name : List ℕ → Bool
is_name [] = false
is_name (c ∷ s) = is_letter c && list_all is_word s

-- a number: one digit or more
abbrev pub is_number : List ℕ → Bool
is_number [] = false
is_number (c ∷ s) = is_digit c && list_all is_digit s

-- the letters and digits at the front of a text, and the text behind them
abbrev pub word : List ℕ → List ℕ
word [] = []
word (c ∷ s) = if is_word c then c ∷ word s else []

-- the text behind the letters and digits at the front
abbrev pub past_word : List ℕ → List ℕ
past_word [] = []
past_word (c ∷ s) = if is_word c then past_word s else c ∷ s

abbrev pub truth_constant_text : Bool → List ℕ
truth_constant_text true = codes ".TRUE."
truth_constant_text false = codes ".FALSE."

-- in an expression, the name of a function with a list behind it is a call
abbrev pub is_call : List ℕ → Trees → Bool
is_call name Trees.None = false
is_call name (Trees.Then t ts) = is_some (function_named name)

mutual
  -- Rule: expressions, levels, functions (5, 6, 15.10)
  -- the text spells the tree, where an expression of this level or a higher one is read (level 1
  -- binds loosest)
  pub data Spells : ℕ → List ℕ → Tree → Type 0 where
    number : {w : ℕ} {text : List ℕ}
        → is_number text ≡ true → Spells w text (Tree.Number (digits_value 10 text))
    truth : {w : ℕ} (b : Bool) → Spells w (truth_constant_text b) (Tree.Truth b)
    reference : {w : ℕ} {text name : List ℕ} {items : Trees} → is_call name items ≡ false
        → SpellsReference text name items → Spells w text (Tree.Reference name items)
    call : {w : ℕ} {text : List ℕ} {items : Trees} (f : Intrinsic) → SpellsAll text items
        → Spells w (function_name f ++ (40 ∷ (text ++ 41 ∷ []))) (Tree.Call f items)
    group : {w : ℕ} {text : List ℕ} {t : Tree}
        → Spells 1 text t → Spells w (40 ∷ (text ++ 41 ∷ [])) t
    signed : {w : ℕ} {text : List ℕ} {t : Tree} (sign : Sign) → w ≤ 6 → Spells 7 text t
        → Spells w (sign_symbol sign ∷ text) (Tree.Signed sign t)
    negated : {w : ℕ} {text : List ℕ} {t : Tree} → w ≤ 4 → Spells 5 text t
        → Spells w (codes ".NOT." ++ text) (Tree.Not t)
    binary : {w : ℕ} {x y : List ℕ} {a b : Tree} (op : Operator) → w ≤ level op
        → Spells (left_level op) x a → Spells (right_level op) y b
        → Spells w (x ++ (symbol op ++ y)) (Tree.Binary op a b)

  -- Rule: expressions, levels, functions (5, 6, 15.10)
  -- the text spells a name, with the subscripts that follow it
  pub data SpellsReference : List ℕ → List ℕ → Trees → Type 0 where
    scalar : {name : List ℕ} → is_name name ≡ true → SpellsReference name name Trees.None
    element : {name text : List ℕ} {items : Trees} → is_name name ≡ true → SpellsAll text items
        → SpellsReference (name ++ (40 ∷ (text ++ 41 ∷ []))) name items

  -- the text spells one expression or more, joined by commas
  pub data SpellsAll : List ℕ → Trees → Type 0 where
    last : {text : List ℕ} {t : Tree} → Spells 1 text t → SpellsAll text (Trees.Then t Trees.None)
    more : {text rest : List ℕ} {t : Tree} {ts : Trees} → Spells 1 text t → SpellsAll rest ts
        → SpellsAll (text ++ (44 ∷ rest)) (Trees.Then t ts)
