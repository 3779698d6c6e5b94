-- A statement as it stands on its lines (ANSI X3.9-1978, 3.2 to 3.4).
-- Private functions and proofs alone cite what stands here.
use Rattle.std.specs.Prelude.{ℕ, List, ◌++◌}
use Rattle.f77_source.specs.Line.{line_part}
use Rattle.f77_source.specs.Card.{CardFields}

-- the card with one more line of text
abbrev pub extended : List ℕ → CardFields → CardFields
extended line card = record card { text = card.text ++ line_part line }
