-- The reader over lines: what it makes of one line, by cases, and of several.
use Rattle.f77_source.proofs.Common.{◌≡◌, ℕ, List, refl, ◌+◌, [], None, Some, sym, ◌∷◌, Ok, Option, Err, subst, Result, kind, own_fault, Progress, taken}
use Rattle.f77_source.proofs.Common.{card_begun, taken_by_kind, gone_on, FormFault, LineKind, Continuation, Initial, Comment}

-- what one line can do
pub data Took (n : ℕ) (line : List ℕ) (p : Progress) : Result Progress FormFault → Type 0 where
  faulty : (fault : FormFault) → own_fault n line ≡ Some fault → Took n line p (Err fault)
  comment : own_fault n line ≡ None → kind line ≡ Comment → Took n line p (Ok p)
  initial : own_fault n line ≡ None → kind line ≡ Initial → Took n line p (Ok (card_begun n line p))
  continuation : own_fault n line ≡ None → kind line ≡ Continuation → Took n line p (gone_on n line p)

-- a line with no fault of its own goes by its kind
pub taken_by : (n : ℕ) (line : List ℕ) (p : Progress) (k : LineKind) → own_fault n line ≡ None → kind line ≡ k → taken n line p ≡ taken_by_kind k n line p
unfolding taken
taken_by n line p k none is = rw (none, is) refl

pub took : (n : ℕ) (line : List ℕ) (p : Progress) → Took n line p (taken n line p)
unfolding taken
took n line p = by_fault (own_fault n line) refl
  where
    by_kind : (k : LineKind) → kind line ≡ k → own_fault n line ≡ None → Took n line p (taken n line p)
    by_kind Comment is none = subst (λ (r : Result Progress FormFault). Took n line p r) (sym (taken_by n line p Comment none is)) (comment none is)
    by_kind Initial is none = subst (λ (r : Result Progress FormFault). Took n line p r) (sym (taken_by n line p Initial none is)) (initial none is)
    by_kind Continuation is none = subst (λ (r : Result Progress FormFault). Took n line p r) (sym (taken_by n line p Continuation none is)) (continuation none is)

    by_fault : (o : Option FormFault) → own_fault n line ≡ o → Took n line p (taken n line p)
    by_fault None none = by_kind (kind line) refl none
    by_fault (Some fault) is = subst (λ (r : Result Progress FormFault). Took n line p r) (sym (rw is refl)) (faulty fault is)

abbrev pub and_then : Result Progress FormFault → (Progress → Result Progress FormFault) → Result Progress FormFault
and_then (Ok p) f = f p
and_then (Err fault) f = Err fault

-- what the lines from number n on do
abbrev pub run : ℕ → Progress → List (List ℕ) → Result Progress FormFault
run n p [] = Ok p
run n p (line ∷ rest) = and_then (taken n line p) (λ q. run (n + 1) q rest)
