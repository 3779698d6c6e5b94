-- Cards written as fixed-form lines (ANSI X3.9-1978, 3.2):
-- one initial line a card, and its continuation lines.
use Rattle.std.specs.Prelude.{ℕ, ◌-◌, ◌*◌, ◌/◌, ◌==◌, ◌||◌, not, nat_lt, Bool, false, if◌then◌else◌}
use Rattle.std.specs.Prelude.{List, [], ◌∷◌, ◌++◌, length, take, drop, replicate, Option, Some, None, codes}
use Rattle.std.specs.List.{list_all, flat_map, filter_map, range_with_len}
use Rattle.std.specs.Fmt.{decimal}
use Rattle.std.specs.Int.{is_in_range}
use Rattle.f77_source.specs.Card.{CardFields}
use Rattle.f77_source.specs.declared.fault.FormFault.{FormFault}
use Rattle.f77_source.specs.declared.fault.FormFault.TheVariants.{NotAscii, BadLabel, TooManyContinuations}

-- columns 1 to 5: the label right-adjusted, or blanks
unfoldable pub label_text : Option ℕ → List ℕ
label_text None = replicate 5 32
label_text (Some n) = replicate (5 - length (decimal n)) 32 ++ decimal n

-- piece k of a text: columns 7 to 72 of the initial line for k = 0, else of continuation line k
abbrev pub piece : List ℕ → ℕ → List ℕ
piece text k = take 66 (drop (66 * k) text)

-- how many continuation lines a text needs
abbrev pub continuation_count : List ℕ → ℕ
continuation_count text = (length text - 1) / 66

-- an initial line: the label, a blank in column 6, and the first piece of the text (3.2)
abbrev pub initial_line : CardFields → List ℕ
initial_line card = label_text card.label ++ (32 ∷ (piece card.text 0 ++ 10 ∷ []))

-- continuation line k: five blanks, + in column 6, and piece k of the text (3.2)
abbrev pub continuation_line : List ℕ → ℕ → List ℕ
continuation_line text k = codes "     +" ++ (piece text k ++ 10 ∷ [])

-- Rule: statements written as lines (3.2)
-- the lines of a card: its initial line, and the continuation lines that its text needs (3.2)
unfoldable pub written_card : CardFields → List ℕ
written_card card = initial_line card
    ++ flat_map (continuation_line card.text) (range_with_len 1 (continuation_count card.text))

-- Rule: statements written as lines (3.2)
-- the lines of all cards, in order
abbrev pub written : List CardFields → List ℕ
written cards = flat_map written_card cards

-- a character that may be written: 32 to 126
abbrev pub is_printable : ℕ → Bool
is_printable c = is_in_range 32 126 c

-- a label that cannot be written
abbrev pub is_bad_label : Option ℕ → Bool
is_bad_label None = false
is_bad_label (Some n) = (n == 0) || nat_lt 99999 n

-- the fault for which a card can not be written
unfoldable pub card_fault : CardFields → Option FormFault
card_fault card =
    if not (list_all is_printable card.text) then Some (NotAscii card.line)
    else (if is_bad_label card.label then Some (BadLabel card.line)
    else (if nat_lt 19 (continuation_count card.text) then Some (TooManyContinuations card.line)
    else None))

-- Rule: statements written as lines (3.2)
-- the faults of the cards, in the order of the cards
abbrev pub card_faults : List CardFields → List FormFault
card_faults cards = filter_map card_fault cards
