-- From the reader's run to the cards of the lines, and back.
use Rattle.f77_source.proofs.Common.{◌≡◌, ℕ, List, ap, ◌∙◌, refl, length, arith, false, true, ◌+◌, [], ◌++◌, None, Some, sym, ◌∷◌, Bool, ◌≤◌, ◌==◌, Ok, Option}
use Rattle.f77_source.proofs.Common.{Err, append_assoc, cond, subst, Result, append-nil, nat_tests, All-cons, All-nil, flat_map, All, kind, CardFields}
use Rattle.f77_source.proofs.Common.{own_fault, continuations, AreCards, MayGoOn, line_part, no_lines, statement, comment, statement_card, Progress, taken}
use Rattle.f77_source.proofs.Common.{all_cards, extended, card_begun, current_gone_on, initial_card, current_card, FormFault, TooManyContinuations}
use Rattle.f77_source.proofs.Common.{Continuation, Initial, Comment}
use Rattle.f77_source.proofs.Faults.{well_formed}
use Rattle.f77_source.proofs.Runs.{Took, took, and_then, run}
use Rattle.f77_source.proofs.Runs as runs

-- the card with the lines that follow it
abbrev pub with_following : CardFields → List (List ℕ) → CardFields
with_following card following = record card { text = card.text ++ flat_map line_part (continuations following) }

-- the cards of the lines from number n on, where a statement may still go on
abbrev pub Rest : ℕ → Option (CardFields × ℕ) → List (List ℕ) → List CardFields → Type 0
Rest n None lines cards = AreCards n lines cards
Rest n (Some s) lines cards =
    (following : List (List ℕ)) × (rest : List (List ℕ)) × (tail : List CardFields)
    × (lines ≡ following ++ rest) × All MayGoOn following × (s.1 + length (continuations following) ≤ 19)
    × AreCards (n + length following) rest tail × (cards ≡ with_following s.0 following ∷ tail)

abbrev pub Within : Option (CardFields × ℕ) → Type 0
Within None = Unit {0}
Within (Some s) = s.1 ≤ 19

comment_follows : (n : ℕ) (line : List ℕ) → own_fault n line ≡ None → kind line ≡ Comment → MayGoOn line
comment_follows n line none is = (rw is refl, well_formed n line none)

continuation_follows : (n : ℕ) (line : List ℕ) → own_fault n line ≡ None → kind line ≡ Continuation → MayGoOn line
continuation_follows n line none is = (rw is refl, well_formed n line none)

-- one more line in front
comment_rest : (n : ℕ) (line : List ℕ) (c : Option (CardFields × ℕ)) (lines : List (List ℕ)) (cards : List CardFields)
    → own_fault n line ≡ None → kind line ≡ Comment → Rest (n + 1) c lines cards → Rest n c (line ∷ lines) cards
comment_rest n line None lines cards none is h = comment is h
comment_rest n line (Some s) lines cards none is h = (
  line ∷ h.0,
  h.1,
  h.2,
  ap (λ ls. line ∷ ls) h.3,
  All-cons MayGoOn line h.0 (comment_follows n line none is) h.4,
  rw is h.5,
  subst (λ m. AreCards m h.1 h.2) (omega arith) h.6,
  h.7 ∙ rw is refl,
)

continuation_rest : (n : ℕ) (line : List ℕ) (s : CardFields × ℕ) (lines : List (List ℕ)) (cards : List CardFields)
    → own_fault n line ≡ None → kind line ≡ Continuation → Rest (n + 1) (Some (extended line s.0, s.1 + 1)) lines cards → Rest n (Some s) (line ∷ lines) cards
continuation_rest n line s lines cards none is h = (
  line ∷ h.0,
  h.1,
  h.2,
  ap (λ ls. line ∷ ls) h.3,
  All-cons MayGoOn line h.0 (continuation_follows n line none is) h.4,
  rw is (omega (arith, h.5)),
  subst (λ m. AreCards m h.1 h.2) (omega arith) h.6,
  h.7 ∙ rw (is, append_assoc) refl,
)

-- an initial line, with what follows it in its statement
opened : (n : ℕ) (line : List ℕ) (lines : List (List ℕ)) (cards : List CardFields)
    → own_fault n line ≡ None → kind line ≡ Initial → Rest (n + 1) (Some (initial_card n line, 0)) lines cards
    → AreCards n (line ∷ lines) cards
opened n line lines cards none is h =
    let made : AreCards n (line ∷ (h.0 ++ h.1)) (statement_card n line h.0 ∷ h.2) =
    statement h.0 (rw is refl) (well_formed n line none) h.4 (omega (arith, h.5)) h.6 in
    rw (h.3, h.7) made

initial_rest : (n : ℕ) (line : List ℕ) (c : Option (CardFields × ℕ)) (lines : List (List ℕ)) (cards : List CardFields)
    → Within c → AreCards n (line ∷ lines) cards → Rest n c (line ∷ lines) (current_card c ++ cards)
initial_rest n line None lines cards within h = h
initial_rest n line (Some s) lines cards within h = (
  [],
  line ∷ lines,
  cards,
  refl,
  All-nil MayGoOn,
  omega (arith, within),
  subst (λ m. AreCards m (line ∷ lines) cards) (omega arith) h,
  rw append-nil refl,
)

-- where no line is left
no_rest : (n : ℕ) (c : Option (CardFields × ℕ)) → Within c → Rest n c [] (current_card c)
no_rest n None within = no_lines
no_rest n (Some s) within = ([], [], [], refl, All-nil MayGoOn, omega (arith, within), no_lines, rw append-nil refl)

-- what a run that succeeds has read
abbrev pub Read : ℕ → Progress → List (List ℕ) → Progress → Type 0
Read n p lines q = (cards : List CardFields) × Rest n p.current lines cards × (all_cards q ≡ p.cards ++ cards)

-- one line, where the lines behind it are read so
sound_step : (lines : List (List ℕ)) → ((n : ℕ) (p q : Progress) → Within p.current → run n p lines ≡ Ok q → Read n p lines q)
    → (line : List ℕ) (n : ℕ) (p q : Progress) → Within p.current → run n p (line ∷ lines) ≡ Ok q → Read n p (line ∷ lines) q
sound_step lines ih line n p q within e = by_took (taken n line p) (took n line p) e
  where
    by_took : (r : Result Progress FormFault) → Took n line p r → and_then r (λ p'. run (n + 1) p' lines) ≡ Ok q → Read n p (line ∷ lines) q
    by_took r (runs.faulty fault is) e = cc
    by_took r (runs.comment none is) e =
        let h = ih (n + 1) p q within e in
        (h.0, comment_rest n line p.current lines h.0 none is h.1, h.2)
    by_took r (runs.initial none is) e =
        let h = ih (n + 1) (card_begun n line p) q (omega arith) e in (
          current_card p.current ++ h.0,
          initial_rest n line p.current lines h.0 within (opened n line lines h.0 none is h.1),
          h.2 ∙ append_assoc p.cards (current_card p.current) h.0,
        )
    by_took r (runs.continuation none is) e = by_current p.current refl within e
      where
        by_current : (c : Option (CardFields × ℕ)) → p.current ≡ c → Within c
            → and_then (current_gone_on n line p.cards c) (λ p'. run (n + 1) p' lines) ≡ Ok q → Read n p (line ∷ lines) q
        by_current None cis w e = cc
        by_current (Some s) cis w e = by_count (s.1 == 19) refl e
          where
            by_count : (b : Bool) → (s.1 == 19) ≡ b
                → and_then (cond b (Err (TooManyContinuations n)) (Ok (record { cards = p.cards; current = Some (extended line s.0, s.1 + 1) })))
                (λ p'. run (n + 1) p' lines) ≡ Ok q → Read n p (line ∷ lines) q
            by_count true bis e = cc
            by_count false bis e =
                let low : s.1 + 1 ≤ 19 = grind (arith, nat_tests) in
                let h = ih (n + 1) (record { cards = p.cards; current = Some (extended line s.0, s.1 + 1) }) q low e in
                (h.0, rw cis (continuation_rest n line s lines h.0 none is h.1), h.2)

pub sound : (lines : List (List ℕ)) (n : ℕ) (p q : Progress) → Within p.current → run n p lines ≡ Ok q → Read n p lines q
sound [] n p q within e =
    let same : p ≡ q = cc in
    (current_card p.current, no_rest n p.current within, ap all_cards (sym same))
sound (line ∷ lines) n p q within e = sound_step lines (λ m r t. sound lines m r t) line n p q within e
