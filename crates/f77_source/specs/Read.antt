-- Fixed source form (ANSI X3.9-1978, 3.2 and 3.3): which cards the lines
-- of a source are, and which line is the first that breaks the form.
use Rattle.std.specs.Prelude.{◌≡◌, ℕ, ◌+◌, ◌<◌, ◌≤◌, ◌==◌, not, Bool, true, false, if◌then◌else◌, List, [], ◌∷◌}
use Rattle.std.specs.Prelude.{◌++◌, map, filter, take, reverse, length, Option, Some, None, slice_index_or}
use Rattle.std.specs.List.{All, list_any, flat_map, slice_split, take_while}
use Rattle.std.specs.Option.{option_or}
use Rattle.std.specs.Str.Lines.{strip_carriage_return}
use Rattle.f77_source.specs.Card.{CardFields}
use Rattle.f77_source.specs.Line.{kind, label, line_part, is_well_formed, own_fault}
use Rattle.f77_source.specs.declared.fault.FormFault.{FormFault}
use Rattle.f77_source.specs.declared.fault.FormFault.TheVariants.{Memory, TooLarge, LooseContinuation}
use Rattle.f77_source.specs.declared.fault.FormFault.TheVariants.{TooManyContinuations}
use Rattle.f77_source.specs.declared.line.LineKind.{LineKind}
use Rattle.f77_source.specs.declared.line.LineKind.TheVariants.{Comment, Initial, Continuation}

-- LF, which ends a line
abbrev pub is_line_end : ℕ → Bool
is_line_end c = c == 10

-- what stands behind the last LF is a line only if it is not empty
abbrev pub terminated : List (List ℕ) → List (List ℕ)
terminated [] = []
terminated ([] ∷ []) = []
terminated (line ∷ lines) = line ∷ terminated lines

-- Rule: lines and statements (3.2, 3.3)
-- the lines of a source: cut at LF, without the one CR that may end each
unfoldable pub lines : List ℕ → List (List ℕ)
lines source = map strip_carriage_return (terminated (slice_split is_line_end source))

abbrev pub is_initial_kind : LineKind → Bool
is_initial_kind Initial = true
is_initial_kind Continuation = false
is_initial_kind Comment = false

abbrev pub is_continuation_kind : LineKind → Bool
is_continuation_kind Initial = false
is_continuation_kind Continuation = true
is_continuation_kind Comment = false

-- the line is an initial line
abbrev pub is_initial : List ℕ → Bool
is_initial line = is_initial_kind (kind line)

-- the line is a continuation line
abbrev pub is_continuation : List ℕ → Bool
is_continuation line = is_continuation_kind (kind line)

-- the continuation lines among these lines
abbrev pub continuations : List (List ℕ) → List (List ℕ)
continuations lines = filter is_continuation lines

-- a line that may follow an initial line in its statement: a continuation line or a comment
abbrev pub MayGoOn : List ℕ → Type 0
MayGoOn line = (is_initial line ≡ false) × (is_well_formed line ≡ true)

-- the card of a statement: its initial line has number n, and these lines follow it in the
-- statement
abbrev pub statement_card : ℕ → List ℕ → List (List ℕ) → CardFields
statement_card n initial following = record {
  label = label initial;
  text = line_part initial ++ flat_map line_part (continuations following);
  line = n;
}

-- Rule: lines and statements (3.2, 3.3)
-- The lines from number n on are these cards. They are comments and statements. A statement is an
-- initial line with its continuation lines, at most 19, and the comments between these.
pub data AreCards : ℕ → List (List ℕ) → List CardFields → Type 0 where
  no_lines : {n : ℕ} → AreCards n [] []
  comment : {n : ℕ} {line : List ℕ} {rest : List (List ℕ)} {cards : List CardFields}
      → kind line ≡ Comment
      → AreCards (n + 1) rest cards → AreCards n (line ∷ rest) cards
  statement : {n : ℕ} {initial : List ℕ} (following : List (List ℕ)) {rest : List (List ℕ)}
      {cards : List CardFields}
      → is_initial initial ≡ true → is_well_formed initial ≡ true
      → All MayGoOn following → length (continuations following) ≤ 19
      → AreCards (n + 1 + length following) rest cards
      → AreCards n (initial ∷ (following ++ rest)) (statement_card n initial following ∷ cards)

-- the lines behind the last initial line, the last of them first
abbrev pub since_initial : List (List ℕ) → List (List ℕ)
since_initial before = take_while (λ line. not (is_initial line)) (reverse before)

-- Rule: F2 to F7 (3.2, 3.3)
-- the fault of continuation line number n because of the lines before it
unfoldable pub place_fault : List (List ℕ) → ℕ → Option FormFault
place_fault before n =
    if not (list_any is_initial before) then Some (LooseContinuation n)
    else (if length (continuations (since_initial before)) == 19 then Some (TooManyContinuations n)
    else None)

-- the fault of line number n behind these lines
unfoldable pub line_fault : List (List ℕ) → ℕ → List ℕ → Option FormFault
line_fault before n line =
    option_or (own_fault n line) (if is_continuation line then place_fault before n else None)

-- the fault of the line at index i: indices count from 0, line numbers from 1
abbrev pub fault_of_card : List (List ℕ) → ℕ → Option FormFault
fault_of_card all i = line_fault (take i all) (i + 1) (slice_index_or all i [])

-- Rule: F2 to F7 (3.2, 3.3)
-- the fault is that of one line, and no line before it has one
pub record IsFirstFormFault (all : List (List ℕ)) (fault : FormFault) : Type 0 where
  pub index : ℕ
  pub within : index < length all
  pub found : fault_of_card all index ≡ Some fault
  pub first : (i : ℕ) → i < index → fault_of_card all i ≡ None

-- Rule: F2 to F7 (3.2, 3.3)
-- a source may be refused with this fault; Memory may come for any source
abbrev pub IsRefusedBy : List ℕ → FormFault → Type 0
IsRefusedBy source Memory = Unit {0}
IsRefusedBy source TooLarge = 65536 < length source
IsRefusedBy source fault = (length source ≤ 65536) × IsFirstFormFault (lines source) fault
