-- What the reader keeps from line to line.
use Rattle.std.specs.Prelude.{◌≡◌, ℕ, ◌+◌, ◌==◌, if◌then◌else◌, List, []}
use Rattle.std.specs.Prelude.{◌∷◌, ◌++◌, Option, Some, None, Result, Ok, Err}
use Rattle.std.specs.Option.{option_map}
use Rattle.f77_source.specs.Card.{CardFields}
use Rattle.f77_source.specs.code.Card.{extended}
use Rattle.f77_source.specs.Line.{kind, label, line_part, own_fault}
use Rattle.f77_source.specs.declared.fault.FormFault.{FormFault}
use Rattle.f77_source.specs.declared.fault.FormFault.TheVariants.{Memory, LooseContinuation, TooManyContinuations}
use Rattle.f77_source.specs.declared.line.LineKind.{LineKind}
use Rattle.f77_source.specs.declared.line.LineKind.TheVariants.{Comment, Initial, Continuation}
use Rattle.f77_source.specs.declared.reader.Reader.{Reader}

-- what is read: the complete cards, and the current card with the number of its continuation lines
pub record Progress : Type 0 where
  pub cards : List CardFields
  pub current : Option (CardFields × ℕ)

-- what a reader has read
abbrev pub progress_of : Reader → Progress
progress_of reader =
    record { cards = reader.cards.items; current = option_map (λ s. (s.card, s.continuations)) reader.current }

abbrev pub nothing_read : Progress
nothing_read = record { cards = []; current = None }

-- the current card, as a list
abbrev pub current_card : Option (CardFields × ℕ) → List CardFields
current_card None = []
current_card (Some s) = s.0 ∷ []

-- all cards, with the current one last
abbrev pub all_cards : Progress → List CardFields
all_cards p = p.cards ++ current_card p.current

-- the card that an initial line, line number n, begins
abbrev pub initial_card : ℕ → List ℕ → CardFields
initial_card n line = record { label = label line; text = line_part line; line = n }

-- what is read after an initial line, line number n
abbrev pub card_begun : ℕ → List ℕ → Progress → Progress
card_begun n line p = record { cards = all_cards p; current = Some (initial_card n line, 0) }

-- what is read after a continuation line, line number n, behind these cards and this current one
abbrev pub current_gone_on : ℕ → List ℕ → List CardFields → Option (CardFields × ℕ) → Result Progress FormFault
current_gone_on n line cards None = Err (LooseContinuation n)
current_gone_on n line cards (Some s) =
    if s.1 == 19 then Err (TooManyContinuations n)
    else Ok (record { cards = cards; current = Some (extended line s.0, s.1 + 1) })

-- what is read after a continuation line, line number n
abbrev pub gone_on : ℕ → List ℕ → Progress → Result Progress FormFault
gone_on n line p = current_gone_on n line p.cards p.current

-- what is read after a line of this kind without a fault of its own
abbrev pub taken_by_kind : LineKind → ℕ → List ℕ → Progress → Result Progress FormFault
taken_by_kind Comment n line p = Ok p
taken_by_kind Initial n line p = Ok (card_begun n line p)
taken_by_kind Continuation n line p = gone_on n line p

-- a line with a fault of its own stops the reader
abbrev pub taken_unless : Option FormFault → Result Progress FormFault → Result Progress FormFault
taken_unless None taken = taken
taken_unless (Some fault) taken = Err fault

-- what is read after line number n, or its fault
unfoldable pub taken : ℕ → List ℕ → Progress → Result Progress FormFault
taken n line p = taken_unless (own_fault n line) (taken_by_kind (kind line) n line p)

-- the call has done this step, or memory ran out
abbrev pub Steps : Result (Unit {0}) FormFault → Result Progress FormFault → Progress → Type 0
Steps (Ok _) step new = step ≡ Ok new
Steps (Err Memory) step new = Unit {0}
Steps (Err fault) step new = step ≡ Err fault
