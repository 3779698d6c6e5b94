-- Names (ANSI X3.9-1978, 2.2), and the seven characters in which a name is kept: its letters and
-- digits, and blanks behind them.
use Rattle.std.specs.Prelude.{◌≡◌, ℕ, ◌-◌, List, Bool, ◌++◌, ◌&&◌, length, nat_le, replicate, take, true}
use Rattle.f77_tree.specs.Grammar.{is_name, word}

-- a name has at most six characters (ANSI X3.9-1978, 2.2)
abbrev pub is_short : List ℕ → Bool
is_short name = nat_le (length name) 6

-- a symbolic name (2.2): letters and digits, the first of them a letter, at most six
abbrev pub is_symbolic : List ℕ → Bool
is_symbolic name = is_name name && is_short name

-- a name as it is kept: its first seven characters, which show whether it is too long
abbrev pub cut : List ℕ → List ℕ
cut name = take 7 name

-- a name with blanks behind it, up to seven characters
abbrev pub padded : List ℕ → List ℕ
padded name = name ++ replicate (7 - length name) 32

-- the seven characters are a name with blanks behind it
pub record IsPadded (letters : List ℕ) : Type 0 where
  pub named : is_name (word letters) ≡ true
  pub padding : letters ≡ padded (word letters)
