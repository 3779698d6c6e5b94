-- Cards that are read one by one.
use Rattle.f77_syntax.proofs.Common.{◌∙◌, sym, ap, ◌≡◌, List, true, [], ◌∷◌, Some, None, subst, Option, ◌++◌, map, append_assoc, inr, inl, append-nil, ◌⊎◌, Err}
use Rattle.f77_syntax.proofs.Common.{Ok, IfOk, MatchResult, Result, ◌≢◌, IfErr, map-append, spelled_is_formed, may_stand, group_of, LineFields, IsProgram}
use Rattle.f77_syntax.proofs.Common.{line_of, SyntaxFault, Memory, Group, End, CardFields, IsAdmitted, AreLines, IsFirstSyntaxFault, line_with, unfinished}
use Rattle.f77_syntax.proofs.Common.{Statement, statement_of}
use Rattle.f77_program.specs.declared.program.Line.{Line}
use Rattle.f77_syntax.proofs.Exact.{either_lines_or_fault, one_fault, one_program}

-- the line of one more card
pub more_lines : (all cards others : List CardFields) (card : CardFields) (last : Option Group) (g : Group) (before after : List LineFields) (s : Statement)
    → cards ≡ card ∷ others → IsAdmitted card.text s → may_stand last (group_of s) ≡ true → g ≡ group_of s → after ≡ before ++ line_with card s ∷ []
    → ((rest : List LineFields) → AreLines last cards rest → AreLines None all (before ++ rest))
    → (rest : List LineFields) → AreLines (Some g) others rest → AreLines None all (after ++ rest)
more_lines all cards others card last g before after s first p may same more keeps rest are =
    let these : AreLines (Some (group_of s)) others rest = subst (λ z. AreLines (Some z) others rest) same are in
    let now : AreLines last cards (line_with card s ∷ rest) = subst (λ z. AreLines last z (line_with card s ∷ rest)) (sym first) (AreLines.next s p may these) in
    subst (λ z. AreLines None all z) (sym (ap (λ z. z ++ rest) more ∙ append_assoc before (line_with card s ∷ []) rest)) (keeps (line_with card s ∷ rest) now)

pub more_faults : (all cards others : List CardFields) (card : CardFields) (last : Option Group) (g : Group) (s : Statement)
    → cards ≡ card ∷ others → IsAdmitted card.text s → may_stand last (group_of s) ≡ true → g ≡ group_of s
    → ((fault : SyntaxFault) → IsFirstSyntaxFault last cards fault → IsFirstSyntaxFault None all fault)
    → (fault : SyntaxFault) → IsFirstSyntaxFault (Some g) others fault → IsFirstSyntaxFault None all fault
more_faults all cards others card last g s first p may same keeps fault is =
    keeps fault (subst (λ z. IsFirstSyntaxFault last z fault) (sym first) (IsFirstSyntaxFault.later p may (subst (λ z. IsFirstSyntaxFault (Some z) others fault) same is)))

pub are_program : {before : Option Group} {cards : List CardFields} {lines : List LineFields} → AreLines before cards lines → IsProgram before lines
are_program AreLines.finished = IsProgram.finished
are_program (AreLines.next {card = card} s p may rest) = IsProgram.next (may, spelled_is_formed p.spells p.names) (are_program rest)

pub end_lines : (all rest : List CardFields) (last : Option Group) (lines : List LineFields) → rest ≡ [] → last ≡ Some End
    → ((more : List LineFields) → AreLines last rest more → AreLines None all (lines ++ more)) → AreLines None all lines
end_lines all rest last lines none end keeps =
    subst (λ z. AreLines None all z) (append-nil lines) (keeps [] (rw (none, end) AreLines.finished))

end_fault : (all rest : List CardFields) (last : Option Group) (fault : SyntaxFault) → rest ≡ [] → last ≢ Some End → fault ≡ unfinished last
    → ((fault : SyntaxFault) → IsFirstSyntaxFault last rest fault → IsFirstSyntaxFault None all fault) → IsFirstSyntaxFault None all fault
end_fault all rest last fault none at_end is keeps = keeps fault (rw (none, is) (IsFirstSyntaxFault.unended at_end))

-- the answer is what the cards say, unless memory ran out
abbrev pub Exactly : List CardFields → Result (List Line) SyntaxFault → Type 0
Exactly cards r = MatchResult r (λ program. AreLines None cards (map line_of program)) (λ fault. (fault ≡ Memory) ⊎ IsFirstSyntaxFault None cards fault)

pub refused_so : (all cards others : List CardFields) (card : CardFields) (last : Option Group) (fault : SyntaxFault) → cards ≡ card ∷ others
    → (fault ≡ Memory) ⊎ ((more : List CardFields) → IsFirstSyntaxFault last (card ∷ more) fault)
    → ((fault : SyntaxFault) → IsFirstSyntaxFault last cards fault → IsFirstSyntaxFault None all fault) → (fault ≡ Memory) ⊎ IsFirstSyntaxFault None all fault
refused_so all cards others card last fault first (inl e) keeps = inl e
refused_so all cards others card last fault first (inr f) keeps = inr (keeps fault (subst (λ z. IsFirstSyntaxFault last z fault) (sym first) (f others)))

pub ended_so : (all rest : List CardFields) (last : Option Group) (lines : List Line) (r : Result (List Line) SyntaxFault) → rest ≡ []
    → MatchResult r (λ program. (program ≡ lines) × (last ≡ Some End)) (λ fault. (last ≢ Some End) × (fault ≡ unfinished last))
    → ((more : List LineFields) → AreLines last rest more → AreLines None all (map line_of lines ++ more))
    → ((fault : SyntaxFault) → IsFirstSyntaxFault last rest fault → IsFirstSyntaxFault None all fault) → Exactly all r
ended_so all rest last lines (Ok program) none p keeps faults =
    subst (λ z. AreLines None all (map line_of z)) (sym p.0) (end_lines all rest last (map line_of lines) none p.1 keeps)
ended_so all rest last lines (Err fault) none p keeps faults = inr (end_fault all rest last fault none p.0 p.1 faults)

pub exactly_lines : (cards : List CardFields) (r : Result (List Line) SyntaxFault) → Exactly cards r → IfOk r (λ program. AreLines None cards (map line_of program))
exactly_lines cards (Ok program) e = e
exactly_lines cards (Err fault) e = tt

pub exactly_refused : (cards : List CardFields) (r : Result (List Line) SyntaxFault) → Exactly cards r → IfErr r (λ fault. (fault ≡ Memory) ⊎ IsFirstSyntaxFault None cards fault)
exactly_refused cards (Ok program) e = tt
exactly_refused cards (Err fault) e = e

pub exactly_accepts : (cards : List CardFields) (r : Result (List Line) SyntaxFault) → Exactly cards r
    → (lines : List LineFields) → AreLines None cards lines → MatchResult r (λ program. map line_of program ≡ lines) (λ fault. fault ≡ Memory)
exactly_accepts cards (Ok program) e lines are = one_program e are
exactly_accepts cards (Err fault) (inl e) lines are = e
exactly_accepts cards (Err fault) (inr f) lines are = either_lines_or_fault are f

pub exactly_first : (cards : List CardFields) (r : Result (List Line) SyntaxFault) → Exactly cards r
    → (fault : SyntaxFault) → IsFirstSyntaxFault None cards fault → (r ≡ Err fault) ⊎ (r ≡ Err Memory)
exactly_first cards (Ok program) e fault first = either_lines_or_fault e first
exactly_first cards (Err other) (inl e) fault first = inr (ap Err e)
exactly_first cards (Err other) (inr f) fault first = inl (ap Err (one_fault f first))

pub pushed : (old new : List Line) (l : Line) (card : CardFields) → new ≡ old ++ l ∷ [] → l.label ≡ card.label → l.line ≡ card.line
    → map line_of new ≡ map line_of old ++ line_with card (statement_of l.stmt) ∷ []
pushed old new l card more label line =
    ap (λ z. map line_of z) more ∙ map-append line_of old (l ∷ [])
    ∙ ap (λ z. map line_of old ++ record { label = z; stmt = statement_of l.stmt; line = l.line } ∷ []) label
    ∙ ap (λ z. map line_of old ++ record { label = card.label; stmt = statement_of l.stmt; line = z } ∷ []) line
