use Rattle.f77_source.proofs.Common.{◌≡◌, ℕ, List, ap, ◌∙◌, refl, true, None, Some, sym, Ok, Err, subst, list_all, kind, own_fault, is_label_character}
use Rattle.f77_source.proofs.Common.{fits_label_field, label_field, Progress, taken, Steps, taken_by_kind, FormFault, TooManyContinuations, BadLabel, NotAscii}
use Rattle.f77_source.proofs.Common.{Memory, Tab, LooseContinuation, TooLarge, LineKind, Continuation, Initial, Comment}
use Rattle.f77_source.proofs.Faults.{sound, label_characters}
use Rattle.f77_source.proofs.reader.Reader.take.Goals as goal

-- a line with no fault of its own goes by its kind
by_kind : (n : ℕ) (line : List ℕ) (p : Progress) (k : LineKind) → own_fault n line ≡ None → k ≡ kind line → taken n line p ≡ taken_by_kind k n line p
unfolding taken
by_kind n line p k none is = rw (none, is) refl

own_first : (n : ℕ) (line : List ℕ) (p new : Progress) (fault : FormFault) → own_fault n line ≡ Some fault → Steps (Err fault) (taken n line p) new
unfolding taken
own_first n line p new Memory is = tt
own_first n line p new TooLarge is = rw is
own_first n line p new (NotAscii m) is = rw is
own_first n line p new (Tab m) is = rw is
own_first n line p new (BadLabel m) is = rw is
own_first n line p new (LooseContinuation m) is = rw is
own_first n line p new (TooManyContinuations m) is = rw is

no_comment_at : (k l : LineKind) → l ≡ k → (l ≡ Comment → ⊥) → k ≡ Comment → ⊥
no_comment_at k l e h is = h (e ∙ is)

label_at : (n : ℕ) (line : List ℕ) → own_fault n line ≡ None → Initial ≡ kind line → list_all is_label_character (label_field line) ≡ true
label_at n line none is =
    let s = sound n line none (λ e. let w : Initial ≡ Comment = is ∙ e in cc) in
    label_characters line (subst (λ (k : LineKind). fits_label_field k line ≡ true) (sym is) s.fits)

pub returns-in-Some : goal.returns-in-Some
returns-in-Some c = own_first _ _ _ _ _ (sym c.fault_of.ensures ∙ c.in-Some.is)

pub begin-requires-clause-printable : goal.begin-requires-clause-printable
begin-requires-clause-printable c =
    let none = sym c.fault_of.ensures ∙ c.in_default.is in
    let is : kind c.args.line.now ≡ Initial = sym c.line_kind.ensures ∙ c.in-Initial.is in
    (sound _ _ none (λ e. let w : Initial ≡ Comment = sym is ∙ e in cc)).printable

pub begin-requires-clause-label : goal.begin-requires-clause-label
begin-requires-clause-label c = label_at _ _ (sym c.fault_of.ensures ∙ c.in_default.is) (sym c.in-Initial.is ∙ c.line_kind.ensures)

pub go_on-requires : goal.go_on-requires
go_on-requires c =
    let none = sym c.fault_of.ensures ∙ c.in_default.is in
    let is : kind c.args.line.now ≡ Continuation = sym c.line_kind.ensures ∙ c.in-Continuation.is in
    (sound _ _ none (λ e. let w : Continuation ≡ Comment = sym is ∙ e in cc)).printable

pub returns-in-Comment : goal.returns-in-Comment
returns-in-Comment c = by_kind _ _ _ Comment (sym c.fault_of.ensures ∙ c.in_default.is) (sym c.in-Comment.is ∙ c.line_kind.ensures)

pub returns-in_ok-begin-in-Initial : goal.returns-in_ok-begin-in-Initial
returns-in_ok-begin-in-Initial c =
    by_kind _ _ _ Initial (sym c.fault_of.ensures ∙ c.in_default.is) (sym c.in-Initial.is ∙ c.line_kind.ensures)
    ∙ ap (λ (p : Progress). Ok p) (sym c.in_ok-begin-in-Initial.ensures)

pub returns-in-Continuation : goal.returns-in-Continuation
returns-in-Continuation c =
    rw (by_kind _ _ _ Continuation (sym c.fault_of.ensures ∙ c.in_default.is) (sym c.in-Continuation.is ∙ c.line_kind.ensures)) c.go_on.ensures
