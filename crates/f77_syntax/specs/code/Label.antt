-- Reading labels.
use Rattle.std.specs.Prelude.{◌≡◌, ℕ, List, Option, Some, None, if◌then◌else◌}
use Rattle.std.specs.Borrow.{Bor}
use Rattle.f77_tree.specs.Grammar.{is_number}
use Rattle.f77_tree.specs.StatementGrammar.{label_number}
use Rattle.f77_syntax.specs.Reading.{◌>>=◌}
use Rattle.f77_syntax.specs.code.Reading.{digits, past_digits, tree_after, value_ended}

-- a row of digits as a label, and the text behind it
unfoldable pub label_at : List ℕ → Option (ℕ × List ℕ)
label_at s = if is_number (digits s) then Some (label_number (digits s), past_digits s) else None

-- a label that is the whole text
unfoldable pub last_label : List ℕ → Option ℕ
last_label s = label_at s >>= λ x. value_ended x.0 x.1

-- a label and the comma behind it, and the text behind both
unfoldable pub label_comma : List ℕ → Option (ℕ × List ℕ)
label_comma s = label_at s >>= λ x. tree_after 44 x.1 >>= λ r. Some (x.0, r)

-- a label and the text behind it
abbrev pub IsLabel : ℕ × Bor (List ℕ) → ℕ × List ℕ → Type 0
IsLabel x a = (x.0 ≡ a.0) × (x.1.now ≡ a.1)
