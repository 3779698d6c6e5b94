-- Words for the laws of the source form: what it means that a source reads as these cards.
use Rattle.std.specs.Prelude.{◌≡◌, ◌⊎◌, ℕ, not, ◌||◌, true, List, map, filter, is_some}
use Rattle.std.specs.List.{list_all}
use Rattle.std.specs.Char.{to_ascii_uppercase}
use Rattle.f77_source.specs.Card.{CardFields}
use Rattle.f77_source.specs.Line.{is_blank}
use Rattle.f77_source.specs.Read.{AreCards, IsFirstFormFault, lines}
use Rattle.f77_source.specs.declared.fault.FormFault.{FormFault}
use Rattle.f77_source.specs.Write.{piece}

-- a text as it is read: without blanks, in upper case
abbrev pub squeezed : List ℕ → List ℕ
squeezed text = map to_ascii_uppercase (filter (λ c. not (is_blank c)) text)

-- the card's first line is no comment: it has a label, or its first piece is not blank
abbrev pub HasInitialLine : CardFields → Type 0
HasInitialLine card = (is_some card.label || not (list_all is_blank (piece card.text 0))) ≡ true

-- the source reads as these cards, if blanks, case and line numbers are left out of account
pub record IsReadAs (source : List ℕ) (cards : List CardFields) : Type 0 where
  pub read : List CardFields
  pub are : AreCards 1 (lines source) read
  pub labels : map (λ card. card.label) read ≡ map (λ card. card.label) cards
  pub texts : map (λ card. card.text) read ≡ map (λ card. squeezed card.text) cards

-- the lines of the source are cards, or one of them is the first that breaks the form
abbrev pub HasCardsOrFault : List ℕ → Type 0
HasCardsOrFault source =
    ((cards : List CardFields) × AreCards 1 (lines source) cards)
    ⊎ ((fault : FormFault) × IsFirstFormFault (lines source) fault)
