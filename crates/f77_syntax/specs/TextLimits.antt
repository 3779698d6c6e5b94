-- The limits on the text of a statement.
use Rattle.std.specs.Prelude.{ℕ, ◌<◌, List, take, fold, length}
use Rattle.std.specs.Str.{chars}
use Rattle.f77_syntax.specs.Classification.{deeper}

-- the number of characters of a text: one of several bytes counts once
abbrev pub character_count : List ℕ → ℕ
character_count text = length (chars text)

-- the largest number of characters of a statement's text: 20 lines of 66
abbrev pub most_characters : ℕ
most_characters = 1320

-- the largest number of parentheses that may be open at once
abbrev pub most_open : ℕ
most_open = 40

-- the number of parentheses that are open behind the text
abbrev pub open_behind : List ℕ → ℕ
open_behind text = fold deeper 0 text

-- Rule: S2 to S9 (2.2, 3.5)
-- at some place of the text more than 40 parentheses are open
abbrev pub IsTooDeep : List ℕ → Type 0
IsTooDeep text = (n : ℕ) × (most_open < open_behind (take n text))
