-- What is read of a program that was printed.
use Rattle.f77_syntax.proofs.Common.{refl, ◌∙◌, sym, ap, ◌≡◌, List, ℕ, true, [], ◌∷◌, Some, None, false, length, arith, subst, Option, Bool, ◌≤◌, map, cond}
use Rattle.f77_syntax.proofs.Common.{nat_lt, ◌||◌, is_some, ltb-false, list_all, All, cons_option, is_formed, LineFields, IsProgram, Group, CardFields}
use Rattle.f77_syntax.proofs.Common.{IsAdmitted, AreLines, line_with, KeepsLimits, ReadsBack, is_name, IsFormed}
use Rattle.std.proofs.lemmas.List.Elements.{All-head, All-tail, All-cons}
use Rattle.f77_source.specs.Law.{squeezed, HasInitialLine, IsReadAs}
use Rattle.f77_source.specs.Write.{written, is_printable, is_bad_label, continuation_count, card_fault, card_faults}
use Rattle.f77_source.specs.declared.fault.FormFault.{FormFault}
use Rattle.f77_source.specs.declared.fault.FormFault.TheVariants.{BadLabel, TooManyContinuations}
use Rattle.f77_program.specs.Canonical.{statement_text}
use Rattle.f77_program.specs.code.Formed.{statement_formed}
use Rattle.f77_program.specs.Printing.{card_of, printed, AreEqualUnnumbered, unnumbered}
use Rattle.f77_program.proofs.Plain.{squeezed_short}
use Rattle.f77_program.proofs.StatementPlain.{printable_statement, statement_starts, reads_back}
use Rattle.f77_program.proofs.Reported.{AreFormed, program_formed}
use Rattle.f77_syntax.proofs.CharacterCounts.{characters_few}

-- no line of the cards is a comment
or_true : (b : Bool) → (b || true) ≡ true
or_true true = refl
or_true false = refl

has_line : (line : LineFields) → statement_formed is_name line.stmt ≡ true → HasInitialLine (card_of line)
has_line line f = rw (statement_starts line.stmt f) (or_true (is_some line.label))

pub have_lines : (lines : List LineFields) → AreFormed lines → All HasInitialLine (map card_of lines)
have_lines [] f = λ k d h. absurd (omega arith)
have_lines (line ∷ lines) f = All-cons HasInitialLine (card_of line) (map card_of lines) (has_line line f.0) (have_lines lines f.1)

-- a card without a fault
no_fault : (o : Option FormFault) (faults : List FormFault) → cons_option o faults ≡ [] → (o ≡ None) × (faults ≡ [])
no_fault None faults e = (refl, e)
no_fault (Some fault) faults e = cc

few_lines : (card : CardFields) → list_all is_printable card.text ≡ true → card_fault card ≡ None → length card.text ≤ 1320
unfolding card_fault
few_lines card p e = step (is_bad_label card.label) (nat_lt 19 (continuation_count card.text)) refl (rw p at e)
  where
    step : (b d : Bool) → nat_lt 19 (continuation_count card.text) ≡ d
        → cond b (Some (BadLabel card.line)) (cond d (Some (TooManyContinuations card.line)) None) ≡ None → length card.text ≤ 1320
    step true d is f = cc
    step false true is f = cc
    step false false is f = let few = ltb-false 19 (continuation_count card.text) is in omega arith

admitted : (line : LineFields) → IsFormed line.stmt → KeepsLimits line.stmt → card_fault (card_of line) ≡ None
    → IsAdmitted (squeezed (statement_text line.stmt)) line.stmt
admitted line f k e = record {
  characters = let few = few_lines (card_of line) (printable_statement line.stmt (is_formed line.stmt f)) e in
      omega (arith, squeezed_short (statement_text line.stmt), characters_few (squeezed (statement_text line.stmt)));
  flat = k.flat;
  spells = reads_back line.stmt f k.unmutated k.constants;
  names = f.2;
  constants = k.constants;
  nodes = k.nodes;
}

-- lines that these cards are, and that are the same program apart from line numbers
abbrev pub Found : Option Group → List CardFields → List LineFields → Type 0
Found before read lines = (found : List LineFields) × AreLines before read found × AreEqualUnnumbered found lines

pub read_again : {before : Option Group} {lines : List LineFields} → IsProgram before lines → All (λ line. KeepsLimits line.stmt) lines
    → card_faults (map card_of lines) ≡ [] → (read : List CardFields) → map (λ card. card.label) read ≡ map (λ card. card.label) (map card_of lines)
    → map (λ card. card.text) read ≡ map (λ card. squeezed card.text) (map card_of lines) → Found before read lines
read_again IsProgram.finished keeps none [] labels texts = ([], AreLines.finished, refl)
read_again IsProgram.finished keeps none (card ∷ read) labels texts = cc
read_again (IsProgram.next may rest) keeps none [] labels texts = cc
read_again (IsProgram.next {line = line} {lines = lines} may rest) keeps none (card ∷ read) labels texts =
    let (first, others) = no_fault (card_fault (card_of line)) (card_faults (map card_of lines)) none in
    let label : card.label ≡ line.label = cc in
    let text : card.text ≡ squeezed (statement_text line.stmt) = cc in
    let more_labels : map (λ card. card.label) read ≡ map (λ card. card.label) (map card_of lines) = cc in
    let more_texts : map (λ card. card.text) read ≡ map (λ card. squeezed card.text) (map card_of lines) = cc in
    let (found, are, equal) = read_again rest (All-tail (λ line. KeepsLimits line.stmt) line lines keeps) others read more_labels more_texts in
    let is : IsAdmitted card.text line.stmt =
    subst (λ z. IsAdmitted z line.stmt) (sym text) (admitted line may.1 (All-head (λ line. KeepsLimits line.stmt) line lines keeps) first) in
    (line_with card line.stmt ∷ found, AreLines.next line.stmt is may.0 are, ap (λ z. (z, line.stmt) ∷ map unnumbered found) label ∙ ap (λ z. (line.label, line.stmt) ∷ z) equal)

pub prints_back : (source : List ℕ) (lines : List LineFields) → IsProgram None lines → card_faults (map card_of lines) ≡ [] → source ≡ printed lines
    → ((cards : List CardFields) → card_faults cards ≡ [] → All HasInitialLine cards → IsReadAs (written cards) cards)
    → All (λ line. KeepsLimits line.stmt) lines → ReadsBack source lines
prints_back source lines program none is law keeps =
    let r = law (map card_of lines) none (have_lines lines (program_formed program)) in
    let (found, are, equal) = read_again program keeps none r.read r.labels r.texts in
    subst (λ z. ReadsBack z lines) (sym is) (record { cards = r.read; are_cards = r.are; found = found; are_lines = are; equal = equal })
