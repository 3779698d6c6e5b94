-- What the run over the lines of a source says of its cards and of its first fault.
use Rattle.f77_source.proofs.Common.{◌≡◌, ℕ, List, ap, ◌∙◌, refl, length, false, true, [], None, Some, sym, Bool, ◌≤◌, ◌==◌, Ok, Option, not, Err, cond, subst}
use Rattle.f77_source.proofs.Common.{Result, inl, inr, ◌⊎◌, list_any, option_or, kind, CardFields, own_fault, continuations, lines, AreCards, is_initial}
use Rattle.f77_source.proofs.Common.{fits_label_field, is_comment, IsFirstFormFault, has_foreign, has_tab, line_fault, place_fault, since_initial}
use Rattle.f77_source.proofs.Common.{HasCardsOrFault, IsRefusedBy, is_continuation, Progress, Steps, all_cards, nothing_read, FormFault, TooManyContinuations}
use Rattle.f77_source.proofs.Common.{BadLabel, NotAscii, Memory, Tab, LooseContinuation, TooLarge}
use Rattle.f77_source.proofs.Runs.{run}
use Rattle.f77_source.proofs.Completeness.{complete}
use Rattle.f77_source.proofs.FirstFaults.{ran, Ran, first_fault, no_first_fault, one_first}
use Rattle.f77_source.proofs.Statements as statements

-- the faults that a line can have
abbrev of_a_line : FormFault → Bool
of_a_line Memory = false
of_a_line TooLarge = false
of_a_line _ = true

own_of_a_line : (n : ℕ) (a b c d : Bool) (f : FormFault)
    → cond a None (cond b (Some (NotAscii n)) (cond c (Some (Tab n)) (cond d None (Some (BadLabel n))))) ≡ Some f → of_a_line f ≡ true
own_of_a_line n true b c d f e = absurd (cc)
own_of_a_line n false true c d f e = let same : NotAscii n ≡ f = cc in ap of_a_line (sym same)
own_of_a_line n false false true d f e = let same : Tab n ≡ f = cc in ap of_a_line (sym same)
own_of_a_line n false false false true f e = absurd (cc)
own_of_a_line n false false false false f e = let same : BadLabel n ≡ f = cc in ap of_a_line (sym same)

place_of_a_line : (n : ℕ) (a b c : Bool) (f : FormFault)
    → cond a (cond b (Some (LooseContinuation n)) (cond c (Some (TooManyContinuations n)) None)) None ≡ Some f → of_a_line f ≡ true
place_of_a_line n false b c f e = absurd (cc)
place_of_a_line n true true c f e = let same : LooseContinuation n ≡ f = cc in ap of_a_line (sym same)
place_of_a_line n true false true f e = let same : TooManyContinuations n ≡ f = cc in ap of_a_line (sym same)
place_of_a_line n true false false f e = absurd (cc)

line_fault_of_a_line : (before : List (List ℕ)) (n : ℕ) (line : List ℕ) (f : FormFault) → line_fault before n line ≡ Some f → of_a_line f ≡ true
unfolding line_fault own_fault place_fault
line_fault_of_a_line before n line f e = by_own (own_fault n line) refl e
  where
    by_own : (o : Option FormFault) → own_fault n line ≡ o
        → option_or o (cond (is_continuation line) (place_fault before n) None) ≡ Some f → of_a_line f ≡ true
    by_own None is e = place_of_a_line n (is_continuation line) (not (list_any is_initial before)) (length (continuations (since_initial before)) == 19) f e
    by_own (Some g) is e = own_of_a_line n (is_comment line) (has_foreign line) (has_tab line) (fits_label_field (kind line) line) f (is ∙ e)

-- a call that gave this fault: memory ran out, or the run stops so
abbrev pub Stopped : List ℕ → FormFault → Type 0
Stopped source fault = (fault ≡ Memory) ⊎ (run 1 nothing_read (lines source) ≡ Err fault)

first_of : (source : List ℕ) (fault : FormFault) → run 1 nothing_read (lines source) ≡ Err fault → IsFirstFormFault (lines source) fault
first_of source fault e =
    first_fault (lines source) fault
    (subst (λ r. Ran [] 1 (lines source) r) (e) (ran (lines source) [] 1 nothing_read record { begun = refl; count = tt }))

refused_by : (source : List ℕ) (fault : FormFault) → length source ≤ 65536 → IsFirstFormFault (lines source) fault → of_a_line fault ≡ true → IsRefusedBy source fault
refused_by source Memory h first e = tt
refused_by source TooLarge h first e = cc
refused_by source (NotAscii n) h first e = (h, first)
refused_by source (Tab n) h first e = (h, first)
refused_by source (BadLabel n) h first e = (h, first)
refused_by source (LooseContinuation n) h first e = (h, first)
refused_by source (TooManyContinuations n) h first e = (h, first)

pub stopped_refused : (source : List ℕ) (fault : FormFault) → length source ≤ 65536 → Stopped source fault → IsRefusedBy source fault
stopped_refused source fault h (inl e) = rw e tt
stopped_refused source fault h (inr e) =
    let first = first_of source fault e in
    refused_by source fault h first (line_fault_of_a_line _ _ _ fault first.found)

pub stopped_accepts : (source : List ℕ) (fault : FormFault) (cards : List CardFields) → Stopped source fault → AreCards 1 (lines source) cards → fault ≡ Memory
stopped_accepts source fault cards (inl e) h = e
stopped_accepts source fault cards (inr e) h =
    let done = complete 1 (lines source) cards h nothing_read in
    let is = done.1 in cc

pub stopped_first : (source : List ℕ) (fault other : FormFault) → Stopped source fault → IsFirstFormFault (lines source) other → (fault ≡ other) ⊎ (fault ≡ Memory)
stopped_first source fault other (inl e) h = inr e
stopped_first source fault other (inr e) h = inl (one_first (lines source) fault other (first_of source fault e) h)

-- a call that read all
pub read_cards : (source : List ℕ) (q : Progress) → run 1 nothing_read (lines source) ≡ Ok q → AreCards 1 (lines source) (all_cards q)
read_cards source q e =
    let h = statements.sound (lines source) 1 nothing_read q tt (e) in
    rw h.2 h.1

pub read_accepts : (source : List ℕ) (q : Progress) (cards : List CardFields) → run 1 nothing_read (lines source) ≡ Ok q → AreCards 1 (lines source) cards → all_cards q ≡ cards
read_accepts source q cards e h =
    let done = complete 1 (lines source) cards h nothing_read in
    let same : q ≡ done.0 = (let is = done.1 in cc) in
    ap all_cards same ∙ done.2

pub read_no_fault : (source : List ℕ) (q : Progress) (fault : FormFault) → run 1 nothing_read (lines source) ≡ Ok q → IsFirstFormFault (lines source) fault → ⊥
read_no_fault source q fault e h =
    no_first_fault (lines source) fault
    (subst (λ r. Ran [] 1 (lines source) r) (e) (ran (lines source) [] 1 nothing_read record { begun = refl; count = tt })) h

-- what follows where a step failed
pub step_stops : (source : List ℕ) (fault : FormFault) (step : Result Progress FormFault) (new : Progress) → Steps (Err fault) step new
    → (step ≡ Err fault → run 1 nothing_read (lines source) ≡ Err fault) → Stopped source fault
step_stops source Memory step new s h = inl refl
step_stops source TooLarge step new s h = inr (h s)
step_stops source (NotAscii n) step new s h = inr (h s)
step_stops source (Tab n) step new s h = inr (h s)
step_stops source (BadLabel n) step new s h = inr (h s)
step_stops source (LooseContinuation n) step new s h = inr (h s)
step_stops source (TooManyContinuations n) step new s h = inr (h s)

-- ---- lines are one list of cards, or have one first fault

pub one_list : (source : List ℕ) (cards others : List CardFields) → AreCards 1 (lines source) cards → AreCards 1 (lines source) others → cards ≡ others
one_list source cards others are also =
    let one = complete 1 (lines source) cards are nothing_read in
    let two = complete 1 (lines source) others also nothing_read in
    let same : one.0 ≡ two.0 = (let a = one.1 in let b = two.1 in cc) in
    sym one.2 ∙ ap all_cards same ∙ two.2

pub one_first_fault : (source : List ℕ) (fault other : FormFault) → IsFirstFormFault (lines source) fault → IsFirstFormFault (lines source) other → fault ≡ other
one_first_fault source fault other = one_first (lines source) fault other

pub cards_or_fault : (source : List ℕ) (cards : List CardFields) (fault : FormFault) → AreCards 1 (lines source) cards → IsFirstFormFault (lines source) fault → ⊥
cards_or_fault source cards fault are first =
    let one = complete 1 (lines source) cards are nothing_read in
    read_no_fault source one.0 fault one.1 first

pub cards_or_first_fault : (source : List ℕ) → HasCardsOrFault source
cards_or_first_fault source = by_run (run 1 nothing_read (lines source)) refl
  where
    by_run : (r : Result Progress FormFault) → run 1 nothing_read (lines source) ≡ r → HasCardsOrFault source
    by_run (Ok q) e = inl (all_cards q, read_cards source q e)
    by_run (Err fault) e = inr (fault, first_of source fault e)
