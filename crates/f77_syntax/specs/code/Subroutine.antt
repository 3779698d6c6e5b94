-- Reading what follows the keyword SUBROUTINE.
use Rattle.std.specs.Prelude.{ℕ, ◌==◌, List, [], length, Option, Some, if◌then◌else◌}
use Rattle.f77_tree.specs.Statement.{Statement}
use Rattle.f77_syntax.specs.Reading.{◌>>=◌}
use Rattle.f77_syntax.specs.code.Reading.{tree_after, behind, close_at, value_ended}
use Rattle.f77_syntax.specs.code.Names.{name_at, names_at}

-- the dummy arguments, or none, and a closing parenthesis, and the text behind it (ANSI X3.9-1978, 15.6)
unfoldable pub dummies_at : List ℕ → Option (List (List ℕ) × List ℕ)
dummies_at s = behind (tree_after 41 s) (λ r. Some ([], r)) (names_at s >>= λ x. close_at x.1 >>= λ r. Some (x.0, r))

-- the name has been read: its dummy arguments in parentheses, or none
abbrev pub arguments_at : List ℕ → List ℕ → Option Statement
arguments_at name s =
    if length s == 0 then Some (Statement.Subroutine name [])
    else (tree_after 40 s >>= λ r. dummies_at r >>= λ x. value_ended (Statement.Subroutine name x.0) x.1)

-- the name of the unit, and its dummy arguments in parentheses or none (ANSI X3.9-1978, 15.6)
unfoldable pub subroutine_at : List ℕ → Option Statement
subroutine_at s = name_at s >>= λ x. arguments_at x.0 x.1
