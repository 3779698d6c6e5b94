-- Reading a GO TO, unconditional or computed (ANSI X3.9-1978, 11.1 and 11.2).
use Rattle.std.specs.Prelude.{ℕ, List, Option, Some, None}
use Rattle.f77_tree.specs.Statement.{Statement}
use Rattle.f77_syntax.specs.Reading.{◌>>=◌}
use Rattle.f77_syntax.specs.code.Reading.{tree_after, close_at, past_comma, whole_at}
use Rattle.f77_syntax.specs.code.Joined.{items_at}
use Rattle.f77_syntax.specs.code.Label.{label_at, last_label}

-- what stands behind `GOTO(`: labels, `)`, a comma that may be left out, and an expression (11.2)
unfoldable pub computed_at : List ℕ → Option Statement
computed_at s =
    items_at label_at s >>= λ x. close_at x.1
    >>= λ r. whole_at (past_comma r) >>= λ v. Some (Statement.ComputedGoto x.0 v)

-- what stands behind `GOTO`: an open parenthesis and the rest of a computed one, or else a label alone
abbrev pub goto_by : List ℕ → Option (List ℕ) → Option Statement
goto_by s (Some r) = computed_at r
goto_by s None = last_label s >>= λ l. Some (Statement.Goto l)

-- a GO TO or a computed one, by what stands behind `GOTO` (11.1 and 11.2)
unfoldable pub goto_at : List ℕ → Option Statement
goto_at s = goto_by s (tree_after 40 s)
