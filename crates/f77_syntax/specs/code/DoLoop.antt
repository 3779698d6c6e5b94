-- Reading a DO statement.
use Rattle.std.specs.Prelude.{ℕ, ◌==◌, List, length, Option, Some, None, if◌then◌else◌, codes}
use Rattle.f77_tree.specs.Tree.{Tree}
use Rattle.f77_tree.specs.Statement.{Statement}
use Rattle.f77_syntax.specs.Reading.{◌>>=◌, strip}
use Rattle.f77_syntax.specs.code.Reading.{tree_after, past_comma, reading, whole_at}
use Rattle.f77_syntax.specs.code.Label.{label_at}
use Rattle.f77_syntax.specs.code.Names.{name_at}

-- the label and the DO variable of a DO, and the text behind the equals sign (ANSI X3.9-1978, 11.10)
unfoldable pub control_at : List ℕ → Option (ℕ × List ℕ × List ℕ)
control_at s =
    label_at s >>= λ x. name_at (past_comma x.1) >>= λ y. tree_after 61 y.1 >>= λ r. Some (x.0, y.0, r)

-- the third parameter of a DO, or nothing (ANSI X3.9-1978, 11.10)
unfoldable pub step_at : List ℕ → Option (Option Tree)
step_at s =
    if length s == 0 then Some None else (tree_after 44 s >>= λ r. whole_at r >>= λ t. Some (Some t))

-- the parameters of a DO with this label and this variable (ANSI X3.9-1978, 11.10)
abbrev pub parameters_at : ℕ → List ℕ → List ℕ → Option Statement
parameters_at label name s =
    reading.expr 1 s >>= λ a. tree_after 44 a.1
    >>= λ r. reading.expr 1 r >>= λ b. step_at b.1 >>= λ c. Some (Statement.Loop label name a.0 b.0 c)

-- a DO: its label, its DO variable and its parameters (ANSI X3.9-1978, 11.10)
unfoldable pub loop_at : List ℕ → Option Statement
loop_at s = strip (codes "DO") s >>= λ r. control_at r >>= λ x. parameters_at x.0 x.1 x.2
