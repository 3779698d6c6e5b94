-- From the cards of the lines to the reader's run.
use Rattle.f77_source.proofs.Common.{◌≡◌, ℕ, List, ◌∙◌, refl, length, arith, false, true, ◌+◌, [], ◌++◌, None, Some, sym, ◌∷◌, ◌≤◌, ◌==◌, Ok, append_assoc}
use Rattle.f77_source.proofs.Common.{append-nil, suc, nat_tests, All-head, All-tail, All, kind, CardFields, own_fault, continuations, AreCards, is_initial}
use Rattle.f77_source.proofs.Common.{MayGoOn, no_lines, statement, comment, Progress, all_cards, extended, initial_card, LineKind, Continuation, Initial}
use Rattle.f77_source.proofs.Common.{Comment}
use Rattle.f77_source.proofs.Faults.{no_own_fault, comment_has_no_fault}
use Rattle.f77_source.proofs.Runs.{taken_by, run}
use Rattle.f77_source.proofs.Statements.{with_following}

abbrev within_statement : List CardFields → CardFields → ℕ → Progress
within_statement cards card k = record { cards = cards; current = Some (card, k) }

same_run : (rest : List (List ℕ)) (cards : List CardFields) (m m' : ℕ) (c c' : CardFields) (k k' : ℕ) → m ≡ m' → c ≡ c' → k ≡ k'
    → run m (within_statement cards c k) rest ≡ run m' (within_statement cards c' k') rest
same_run rest cards m m' c c' k k' e f g = rw (e, f, g) refl

-- one line that follows an initial line goes into its card
follow_step : (following rest : List (List ℕ)) (n : ℕ) (cards : List CardFields) (line : List ℕ)
    → own_fault n line ≡ None → is_initial line ≡ false
    → ((card : CardFields) (k : ℕ) → k + length (continuations following) ≤ 19
    → run (n + 1) (within_statement cards card k) (following ++ rest)
    ≡ run (n + 1 + length following) (within_statement cards (with_following card following) (k + length (continuations following))) rest)
    → (card : CardFields) (k : ℕ) → k + length (continuations (line ∷ following)) ≤ 19
    → run n (within_statement cards card k) (line ∷ (following ++ rest))
    ≡ run (n + suc (length following)) (within_statement cards (with_following card (line ∷ following)) (k + length (continuations (line ∷ following)))) rest
follow_step following rest n cards line none later ih card k few = by_kind (kind line) refl
  where
    by_kind : (l : LineKind) → kind line ≡ l
        → run n (within_statement cards card k) (line ∷ (following ++ rest))
        ≡ run (n + suc (length following)) (within_statement cards (with_following card (line ∷ following)) (k + length (continuations (line ∷ following)))) rest
    by_kind Initial is = let wrong : true ≡ false = rw is at later in cc
    by_kind Comment is =
        rw (taken_by n line (within_statement cards card k) Comment none is, is)
        (ih card k (rw is at few) ∙ same_run rest cards _ _ _ _ _ _ (omega arith) refl refl)
    by_kind Continuation is =
        let small : k + suc (length (continuations following)) ≤ 19 = rw is at few in
        let b : (k == 19) ≡ false = grind (arith, nat_tests) in
        rw (taken_by n line (within_statement cards card k) Continuation none is, is, b)
        (ih (extended line card) (k + 1) (omega arith)
        ∙ same_run rest cards _ _ _ _ _ _ (omega arith) (rw append_assoc refl) (omega arith))

-- the lines that follow an initial line go into its card
follow : (following rest : List (List ℕ)) (n : ℕ) (cards : List CardFields)
    → All MayGoOn following → (card : CardFields) (k : ℕ) → k + length (continuations following) ≤ 19
    → run n (within_statement cards card k) (following ++ rest)
    ≡ run (n + length following) (within_statement cards (with_following card following) (k + length (continuations following))) rest
follow [] rest n cards all card k few = same_run rest cards _ _ _ _ _ _ (omega arith) (rw append-nil refl) (omega arith)
follow (line ∷ following) rest n cards all card k few =
    let h = All-head MayGoOn line following all in
    follow_step following rest n cards line (no_own_fault n line h.1) h.0 (follow following rest (n + 1) cards (All-tail MayGoOn line following all)) card k few

initial_kind : (line : List ℕ) → is_initial line ≡ true → kind line ≡ Initial
initial_kind line h = by_kind (kind line) refl
  where
    by_kind : (k : LineKind) → kind line ≡ k → kind line ≡ Initial
    by_kind Initial is = is
    by_kind Comment is = let wrong : false ≡ true = rw is at h in cc
    by_kind Continuation is = let wrong : false ≡ true = rw is at h in cc

pub complete : (n : ℕ) (lines : List (List ℕ)) (cards : List CardFields) → AreCards n lines cards → (p : Progress)
    → (q : Progress) × (run n p lines ≡ Ok q) × (all_cards q ≡ all_cards p ++ cards)
complete n lines cards no_lines p = (p, refl, sym (append-nil (all_cards p)))
complete n lines cards (comment {line = line} {rest = rest} is h) p =
    let ih = complete (n + 1) rest cards h p in
    (ih.0, rw (taken_by n line p Comment (comment_has_no_fault n line is) is) ih.1, ih.2)
complete n lines cards (statement {initial = initial} following {rest = rest} {cards = tail} i w all few h) p =
    let begun_is = taken_by n initial p Initial (no_own_fault n initial w) (initial_kind initial i) in
    let f = follow following rest (n + 1) (all_cards p) all (initial_card n initial) 0 (omega arith) in
    let ih = complete (n + 1 + length following) rest tail h
    (within_statement (all_cards p) (with_following (initial_card n initial) following) (0 + length (continuations following))) in
    (ih.0, rw begun_is (f ∙ ih.1), ih.2 ∙ append_assoc (all_cards p) (with_following (initial_card n initial) following ∷ []) tail)
