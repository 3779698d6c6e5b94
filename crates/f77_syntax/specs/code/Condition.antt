-- Reading what is in the parentheses of an IF, and the labels of an arithmetic IF.
use Rattle.std.specs.Prelude.{ℕ, List, Option, Some, codes}
use Rattle.f77_tree.specs.Tree.{Tree}
use Rattle.f77_tree.specs.Statement.{Statement}
use Rattle.f77_syntax.specs.Reading.{◌>>=◌, strip}
use Rattle.f77_syntax.specs.code.Reading.{close_at, reading}
use Rattle.f77_syntax.specs.code.Label.{last_label, label_comma}

-- what stands behind the condition of an arithmetic IF: three labels (ANSI X3.9-1978, 11.4)
unfoldable pub arithmetic_at : Tree → List ℕ → Option Statement
arithmetic_at t s =
    label_comma s >>= λ l. label_comma l.1 >>= λ m. last_label m.1 >>= λ n. Some (Statement.ArithIf t l.0 m.0 n)

-- `IF(`, an expression and `)`, and the text behind them (ANSI X3.9-1978, 11.4 to 11.7)
unfoldable pub condition_at : List ℕ → Option (Tree × List ℕ)
condition_at s = strip (codes "IF(") s >>= λ r. reading.expr 1 r >>= λ x. close_at x.1 >>= λ z. Some (x.0, z)
