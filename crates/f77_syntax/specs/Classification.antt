-- The class of a statement, found from its text as a whole, since no word is reserved (ANSI
-- X3.9-1978, 2.3 and 3.3).
use Rattle.std.specs.Prelude.{ℕ, suc, ◌-◌, ◌==◌, List, [], ◌∷◌, Option, Some, None}
use Rattle.std.specs.Prelude.{Bool, false, ◌&&◌, not, is_some, if◌then◌else◌, codes}
use Rattle.f77_syntax.specs.Reading.{◌>>=◌, strip}
use Rattle.f77_tree.specs.Statement.{Statement}
use Rattle.f77_syntax.specs.declared.classification.Class.{Class}
use Rattle.f77_syntax.specs.declared.classification.Class.TheVariants.{If, Loop, Assignment, Keyword}

-- the number of open parentheses behind this character; one that closes where none is open changes
-- nothing
abbrev pub deeper : ℕ → ℕ → ℕ
deeper depth c = if c == 40 then suc depth else (if c == 41 then depth - 1 else depth)

-- the text behind the first character b outside parentheses, where `depth` of them are open at the
-- front
abbrev pub behind_character : ℕ → ℕ → List ℕ → Option (List ℕ)
behind_character b depth [] = None
behind_character b depth (c ∷ s) =
    if (depth == 0) && (c == b) then Some s else behind_character b (deeper depth c) s

-- the text begins with the character b
abbrev pub begins_with : ℕ → List ℕ → Bool
begins_with b [] = false
begins_with b (c ∷ s) = c == b

-- there is a text, and it does not begin with an equals sign
abbrev pub no_equals : Option (List ℕ) → Bool
no_equals None = false
no_equals (Some rest) = not (begins_with 61 rest)

-- Rule: what stands outside parentheses (2.3, 3.3)
-- the text begins with IF( and the character behind the matching parenthesis is no equals sign
unfoldable pub begins_if : List ℕ → Bool
begins_if text = no_equals (strip (codes "IF(") text >>= behind_character 41 0)

-- a DO, an assignment or a keyword, from the text behind the equals sign outside parentheses
abbrev pub class_behind : Option (List ℕ) → Class
class_behind None = Keyword
class_behind (Some rest) = if is_some (behind_character 44 0 rest) then Loop else Assignment

-- Rule: what stands outside parentheses (2.3, 3.3)
-- the class of a text: an IF statement; else a DO if a comma follows an equals sign, both outside
-- parentheses; else an assignment if there is such an equals sign; else what its keyword says
unfoldable pub class_of : List ℕ → Class
class_of text = if begins_if text then If else class_behind (behind_character 61 0 text)

-- the class of a statement, by its form
abbrev pub statement_class : Statement → Class
statement_class (Statement.Assign name items t) = Assignment
statement_class (Statement.ArithIf t l m n) = If
statement_class (Statement.LogicalIf t s) = If
statement_class (Statement.BlockIf t) = If
statement_class (Statement.Loop label name a b c) = Loop
statement_class _ = Keyword
