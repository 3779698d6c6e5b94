-- A statement as it stands on its lines (ANSI X3.9-1978, 3.2 to 3.4).
use Rattle.std.specs.Prelude.{ℕ, ◌==◌, nat_eq, List, Option, Bool, ◌&&◌}
use Rattle.std.specs.Option.{option_eq}
use Rattle.std.specs.Str.{bytes_eq}

-- a card: the label where there is one, the codes of its characters, the number of its initial line
pub record CardFields : Type 0 where
  pub label : Option ℕ
  pub text : List ℕ
  pub line : ℕ

-- two cards have the same label or none, the same text and the same line
abbrev pub same_card : CardFields → CardFields → Bool
same_card a b = option_eq nat_eq a.label b.label && (bytes_eq a.text b.text && a.line == b.line)
