-- Cards are at most one program, or have one first fault.
use Rattle.f77_syntax.proofs.Common.{refl, ◌∙◌, sym, ap, ◌≡◌, List, ℕ, true, ◌∷◌, Some, false, arith, subst, Option, Bool, inr, inl, ◌⊎◌, ◌≢◌, may_stand}
use Rattle.f77_syntax.proofs.Common.{group_of, LineFields, SyntaxFault, Memory, AfterEnd, Group, End, Subroutine, CardFields, IsAdmitted, AreLines}
use Rattle.f77_syntax.proofs.Common.{IsCardRefused, IsFirstSyntaxFault, line_with, misplaced_statement, statement_constants, statement_nodes, statement_names}
use Rattle.f77_syntax.proofs.Common.{Statement}
use Rattle.f77_syntax.proofs.StatementComplete.{one_statement}

pub same_admitted : {text : List ℕ} {s t : Statement} → IsAdmitted text s → IsAdmitted text t → s ≡ t
same_admitted p q = one_statement p.spells q.spells

never : {A : Type 0} (b : Bool) → b ≡ true → b ≡ false → A
never true e f = cc
never false e f = cc

pub not_refused : {line : ℕ} {text : List ℕ} {s : Statement} {fault : SyntaxFault} {A : Type 0} → IsAdmitted text s → IsCardRefused line text fault → A
not_refused p (IsCardRefused.characters h) = let k = p.characters in absurd (omega arith)
not_refused p (IsCardRefused.parentheses h deep) = absurd (p.flat deep)
not_refused p (IsCardRefused.unknown h flat none) = absurd (none _ p.spells)
not_refused p (IsCardRefused.name h flat spells bad) = never _ (ap statement_names (one_statement spells p.spells) ∙ p.names) bad
not_refused p (IsCardRefused.constant h flat spells good bad) = never _ (ap statement_constants (one_statement spells p.spells) ∙ p.constants) bad
not_refused p (IsCardRefused.nodes h flat spells good well many) =
    let k = p.nodes in
    let e = ap statement_nodes (one_statement spells p.spells) in absurd (omega arith)

-- nothing stands behind END
pub none_behind_end : (g : Group) → may_stand (Some End) g ≡ false
none_behind_end Subroutine = refl
none_behind_end _ = refl

-- no cards are a program and have a fault
pub either_lines_or_fault : {before : Option Group} {cards : List CardFields} {lines : List LineFields} {fault : SyntaxFault} {A : Type 0}
    → AreLines before cards lines → IsFirstSyntaxFault before cards fault → A
either_lines_or_fault AreLines.finished (IsFirstSyntaxFault.unended h) = absurd (h refl)
either_lines_or_fault {before = before} (AreLines.next s p h rest) IsFirstSyntaxFault.behind_end = never (may_stand (Some End) (group_of s)) h (none_behind_end (group_of s))
either_lines_or_fault (AreLines.next s p h rest) (IsFirstSyntaxFault.refused e r) = not_refused p r
either_lines_or_fault {before = before} (AreLines.next s p h rest) (IsFirstSyntaxFault.out_of_place e q out) =
    never _ h (ap (λ z. may_stand before (group_of z)) (same_admitted p q) ∙ out)
either_lines_or_fault (AreLines.next {cards = cards} {lines = lines} s p h rest) (IsFirstSyntaxFault.later q may fault) =
    either_lines_or_fault (subst (λ z. AreLines (Some (group_of z)) cards lines) (same_admitted p q) rest) fault

same_refused : {line : ℕ} {text : List ℕ} {f g : SyntaxFault} → IsCardRefused line text f → IsCardRefused line text g → f ≡ g
same_refused (IsCardRefused.characters x) (IsCardRefused.characters y) = refl
same_refused (IsCardRefused.characters x) (IsCardRefused.parentheses y ydeep) = absurd (omega arith)
same_refused (IsCardRefused.characters x) (IsCardRefused.unknown y yflat ynone) = absurd (omega arith)
same_refused (IsCardRefused.characters x) (IsCardRefused.name y yflat yspells yname) = absurd (omega arith)
same_refused (IsCardRefused.characters x) (IsCardRefused.constant y yflat yspells yname yconstant) = absurd (omega arith)
same_refused (IsCardRefused.characters x) (IsCardRefused.nodes y yflat yspells yname yconstant ynodes) = absurd (omega arith)
same_refused (IsCardRefused.parentheses x xdeep) (IsCardRefused.characters y) = absurd (omega arith)
same_refused (IsCardRefused.parentheses x xdeep) (IsCardRefused.parentheses y ydeep) = refl
same_refused (IsCardRefused.parentheses x xdeep) (IsCardRefused.unknown y yflat ynone) = absurd (yflat xdeep)
same_refused (IsCardRefused.parentheses x xdeep) (IsCardRefused.name y yflat yspells yname) = absurd (yflat xdeep)
same_refused (IsCardRefused.parentheses x xdeep) (IsCardRefused.constant y yflat yspells yname yconstant) = absurd (yflat xdeep)
same_refused (IsCardRefused.parentheses x xdeep) (IsCardRefused.nodes y yflat yspells yname yconstant ynodes) = absurd (yflat xdeep)
same_refused (IsCardRefused.unknown x xflat xnone) (IsCardRefused.characters y) = absurd (omega arith)
same_refused (IsCardRefused.unknown x xflat xnone) (IsCardRefused.parentheses y ydeep) = absurd (xflat ydeep)
same_refused (IsCardRefused.unknown x xflat xnone) (IsCardRefused.unknown y yflat ynone) = refl
same_refused (IsCardRefused.unknown x xflat xnone) (IsCardRefused.name y yflat yspells yname) = absurd (xnone _ yspells)
same_refused (IsCardRefused.unknown x xflat xnone) (IsCardRefused.constant y yflat yspells yname yconstant) = absurd (xnone _ yspells)
same_refused (IsCardRefused.unknown x xflat xnone) (IsCardRefused.nodes y yflat yspells yname yconstant ynodes) = absurd (xnone _ yspells)
same_refused (IsCardRefused.name x xflat xspells xname) (IsCardRefused.characters y) = absurd (omega arith)
same_refused (IsCardRefused.name x xflat xspells xname) (IsCardRefused.parentheses y ydeep) = absurd (xflat ydeep)
same_refused (IsCardRefused.name x xflat xspells xname) (IsCardRefused.unknown y yflat ynone) = absurd (ynone _ xspells)
same_refused (IsCardRefused.name x xflat xspells xname) (IsCardRefused.name y yflat yspells yname) = refl
same_refused (IsCardRefused.name x xflat xspells xname) (IsCardRefused.constant y yflat yspells yname yconstant) = never _ (ap statement_names (one_statement xspells yspells) ∙ yname) xname
same_refused (IsCardRefused.name x xflat xspells xname) (IsCardRefused.nodes y yflat yspells yname yconstant ynodes) = never _ (ap statement_names (one_statement xspells yspells) ∙ yname) xname
same_refused (IsCardRefused.constant x xflat xspells xname xconstant) (IsCardRefused.characters y) = absurd (omega arith)
same_refused (IsCardRefused.constant x xflat xspells xname xconstant) (IsCardRefused.parentheses y ydeep) = absurd (xflat ydeep)
same_refused (IsCardRefused.constant x xflat xspells xname xconstant) (IsCardRefused.unknown y yflat ynone) = absurd (ynone _ xspells)
same_refused (IsCardRefused.constant x xflat xspells xname xconstant) (IsCardRefused.name y yflat yspells yname) = never _ (ap statement_names (one_statement yspells xspells) ∙ xname) yname
same_refused (IsCardRefused.constant x xflat xspells xname xconstant) (IsCardRefused.constant y yflat yspells yname yconstant) = refl
same_refused (IsCardRefused.constant x xflat xspells xname xconstant) (IsCardRefused.nodes y yflat yspells yname yconstant ynodes) =
    never _ (ap statement_constants (one_statement xspells yspells) ∙ yconstant) xconstant
same_refused (IsCardRefused.nodes x xflat xspells xname xconstant xnodes) (IsCardRefused.characters y) = absurd (omega arith)
same_refused (IsCardRefused.nodes x xflat xspells xname xconstant xnodes) (IsCardRefused.parentheses y ydeep) = absurd (xflat ydeep)
same_refused (IsCardRefused.nodes x xflat xspells xname xconstant xnodes) (IsCardRefused.unknown y yflat ynone) = absurd (ynone _ xspells)
same_refused (IsCardRefused.nodes x xflat xspells xname xconstant xnodes) (IsCardRefused.name y yflat yspells yname) = never _ (ap statement_names (one_statement yspells xspells) ∙ xname) yname
same_refused (IsCardRefused.nodes x xflat xspells xname xconstant xnodes) (IsCardRefused.constant y yflat yspells yname yconstant) =
    never _ (ap statement_constants (one_statement yspells xspells) ∙ xconstant) yconstant
same_refused (IsCardRefused.nodes x xflat xspells xname xconstant xnodes) (IsCardRefused.nodes y yflat yspells yname yconstant ynodes) = refl

first_is_later : {before : Option Group} {card : CardFields} {cards : List CardFields} {f : SyntaxFault} {s : Statement}
    → IsAdmitted card.text s → may_stand before (group_of s) ≡ true → IsFirstSyntaxFault before (card ∷ cards) f → IsFirstSyntaxFault (Some (group_of s)) cards f
first_is_later {s = s} p h IsFirstSyntaxFault.behind_end = never (may_stand (Some End) (group_of s)) h (none_behind_end (group_of s))
first_is_later p h (IsFirstSyntaxFault.refused e r) = not_refused p r
first_is_later {before = before} p h (IsFirstSyntaxFault.out_of_place e q out) = never _ h (ap (λ z. may_stand before (group_of z)) (same_admitted p q) ∙ out)
first_is_later {cards = cards} {f = f} p h (IsFirstSyntaxFault.later q may fault) = subst (λ z. IsFirstSyntaxFault (Some (group_of z)) cards f) (same_admitted q p) fault

pub one_fault : {before : Option Group} {cards : List CardFields} {f g : SyntaxFault} → IsFirstSyntaxFault before cards f → IsFirstSyntaxFault before cards g → f ≡ g
one_fault (IsFirstSyntaxFault.unended h) (IsFirstSyntaxFault.unended k) = refl
one_fault IsFirstSyntaxFault.behind_end IsFirstSyntaxFault.behind_end = refl
one_fault IsFirstSyntaxFault.behind_end (IsFirstSyntaxFault.refused k r) = absurd (k refl)
one_fault IsFirstSyntaxFault.behind_end (IsFirstSyntaxFault.out_of_place k q out) = absurd (k refl)
one_fault IsFirstSyntaxFault.behind_end (IsFirstSyntaxFault.later {s = s} q may fault) = never (may_stand (Some End) (group_of s)) may (none_behind_end (group_of s))
one_fault (IsFirstSyntaxFault.refused h r) IsFirstSyntaxFault.behind_end = absurd (h refl)
one_fault (IsFirstSyntaxFault.refused h r) (IsFirstSyntaxFault.refused k q) = same_refused r q
one_fault (IsFirstSyntaxFault.refused h r) (IsFirstSyntaxFault.out_of_place k q out) = not_refused q r
one_fault (IsFirstSyntaxFault.refused h r) (IsFirstSyntaxFault.later q may fault) = not_refused q r
one_fault (IsFirstSyntaxFault.out_of_place h p out) IsFirstSyntaxFault.behind_end = absurd (h refl)
one_fault (IsFirstSyntaxFault.out_of_place h p out) (IsFirstSyntaxFault.refused k r) = not_refused p r
one_fault (IsFirstSyntaxFault.out_of_place h p out) (IsFirstSyntaxFault.out_of_place k q other) = refl
one_fault {before = before} (IsFirstSyntaxFault.out_of_place h p out) (IsFirstSyntaxFault.later q may fault) =
    never _ may (ap (λ z. may_stand before (group_of z)) (same_admitted q p) ∙ out)
one_fault (IsFirstSyntaxFault.later p may fault) other = one_fault fault (first_is_later p may other)

pub one_program : {before : Option Group} {cards : List CardFields} {lines others : List LineFields}
    → AreLines before cards lines → AreLines before cards others → lines ≡ others
one_program AreLines.finished AreLines.finished = refl
one_program (AreLines.next {card = card} {cards = cards} s p h rest) (AreLines.next {lines = more} t q k other) =
    let e = same_admitted p q in
    let others : AreLines (Some (group_of s)) cards more = subst (λ z. AreLines (Some (group_of z)) cards more) (sym e) other in
    ap (λ z. line_with card s ∷ z) (one_program rest others) ∙ ap (λ z. line_with card z ∷ more) e

pub behind_end : (before : Option Group) (card : CardFields) (line : ℕ) → before ≡ Some End → line ≡ card.line
    → (cards : List CardFields) → IsFirstSyntaxFault before (card ∷ cards) (AfterEnd line)
behind_end before card line e f cards = rw (e, f) IsFirstSyntaxFault.behind_end

pub refused_first : (before : Option Group) (card : CardFields) (line : ℕ) (text : List ℕ) (fault : SyntaxFault) → before ≢ Some End → line ≡ card.line → text ≡ card.text
    → (fault ≡ Memory) ⊎ IsCardRefused line text fault → (fault ≡ Memory) ⊎ ((cards : List CardFields) → IsFirstSyntaxFault before (card ∷ cards) fault)
refused_first before card line text fault h e f (inl m) = inl m
refused_first before card line text fault h e f (inr r) = inr (λ cards. IsFirstSyntaxFault.refused h (subst (λ z. IsCardRefused z card.text fault) e (subst (λ z. IsCardRefused line z fault) f r)))

pub out_first : (before : Option Group) (card : CardFields) (line : ℕ) (text : List ℕ) (s : Statement) (fault : SyntaxFault) (g : Group) (b : Bool)
    → before ≢ Some End → line ≡ card.line → text ≡ card.text → IsAdmitted text s → g ≡ group_of s → b ≡ may_stand before g → b ≡ false → fault ≡ misplaced_statement before line
    → (cards : List CardFields) → IsFirstSyntaxFault before (card ∷ cards) fault
out_first before card line text s fault g b h e f p same is no_place reported cards =
    subst (λ z. IsFirstSyntaxFault before (card ∷ cards) z) (sym (reported ∙ ap (λ z. misplaced_statement before z) e))
    (IsFirstSyntaxFault.out_of_place h (subst (λ z. IsAdmitted z s) f p) (ap (λ z. may_stand before z) (sym same) ∙ sym is ∙ no_place))
