-- A source has at most one program or one fault.
use Rattle.mothra_app.proofs.Common.{◌≡◌, ℕ, List, ap, refl, ◌⊎◌, arith, length, ◌≤◌, None, ◌<◌}
use Rattle.mothra_app.proofs.Common.{OneAnswer, LineFields, AreCards, lines, AreCardsOf, IsJudged, IsLegalProgramOf, IsProgramIn, IsProgramOf, Syntax, Check, Form}
use Rattle.mothra_app.proofs.Common.{IsReport, Op, IsTooLong, most_edits, most_whole, thinned, IsMember, Lists, Edit, BenchFields, first_or}
use Rattle.f77_source.specs.Card.{CardFields}
use Rattle.f77_source.specs.declared.fault.FormFault.{FormFault}
use Rattle.f77_syntax.specs.Parsing.{AreLines}
use Rattle.f77_program.specs.declared.fault.SyntaxFault.{SyntaxFault}
use Rattle.f77_legal.specs.Legal.{faults}
use Rattle.f77_source.specs.Read as form
use Rattle.f77_syntax.specs.Parsing as syntax
use Rattle.mothra_app.proofs.Stages.{One, Same, one_then, one_value}

-- the laws of the crates below
pub record Laws : Type 0 where
  pub one_list : (source : List ℕ) (cards others : List CardFields) → AreCards 1 (lines source) cards → AreCards 1 (lines source) others → cards ≡ others
  pub one_form_fault : (source : List ℕ) (fault other : FormFault) → form.IsFirstFormFault (lines source) fault → form.IsFirstFormFault (lines source) other → fault ≡ other
  pub cards_or_fault : (source : List ℕ) (cards : List CardFields) (fault : FormFault) → AreCards 1 (lines source) cards → form.IsFirstFormFault (lines source) fault → ⊥
  pub one_program : (cards : List CardFields) (program others : List LineFields) → AreLines None cards program → AreLines None cards others → program ≡ others
  pub one_syntax_fault : (cards : List CardFields) (fault other : SyntaxFault) → syntax.IsFirstSyntaxFault None cards fault → syntax.IsFirstSyntaxFault None cards other → fault ≡ other
  pub one_run : OneAnswer
  pub one_edit_list : (op : Op) (program : List LineFields) (one other : List Edit) → Lists (IsMember op program) one → Lists (IsMember op program) other → one ≡ other
  pub too_long : (op : Op) (program : List LineFields) (q : ℕ) (whole : List Edit) → 1 ≤ q → IsTooLong op program q → Lists (IsMember op program) whole
      → (most_edits < length (thinned q whole)) ⊎ (most_whole < length whole)
  pub one_report : (bench : BenchFields) (one other : List ℕ) → IsReport bench one → IsReport bench other → one ≡ other
  pub program_or_fault : (cards : List CardFields) (program : List LineFields) (fault : SyntaxFault) → AreLines None cards program → syntax.IsFirstSyntaxFault None cards fault → ⊥

one_cards : Laws → (source : List ℕ) → One Same (AreCardsOf source)
one_cards laws source x y (AreCardsOf.too_large p) (AreCardsOf.too_large q) = refl
one_cards laws source x y (AreCardsOf.too_large p) (AreCardsOf.no_cards q g) = absurd (omega arith)
one_cards laws source x y (AreCardsOf.too_large p) (AreCardsOf.read q are) = absurd (omega arith)
one_cards laws source x y (AreCardsOf.no_cards p f) (AreCardsOf.too_large q) = absurd (omega arith)
one_cards laws source x y (AreCardsOf.no_cards p f) (AreCardsOf.no_cards q g) = ap (λ fault. Form fault) (laws.one_form_fault _ _ _ f g)
one_cards laws source x y (AreCardsOf.no_cards p f) (AreCardsOf.read q are) = absurd (laws.cards_or_fault _ _ _ are f)
one_cards laws source x y (AreCardsOf.read p are) (AreCardsOf.too_large q) = absurd (omega arith)
one_cards laws source x y (AreCardsOf.read p are) (AreCardsOf.no_cards q g) = absurd (laws.cards_or_fault _ _ _ are g)
one_cards laws source x y (AreCardsOf.read p are) (AreCardsOf.read q also) = laws.one_list _ _ _ are also

one_lines : Laws → (cards : List CardFields) → One Same (IsProgramIn cards)
one_lines laws cards x y (IsProgramIn.no_program f) (IsProgramIn.no_program g) = ap (λ fault. Syntax fault) (laws.one_syntax_fault _ _ _ f g)
one_lines laws cards x y (IsProgramIn.no_program f) (IsProgramIn.parsed q) = absurd (laws.program_or_fault _ _ _ q f)
one_lines laws cards x y (IsProgramIn.parsed p) (IsProgramIn.no_program g) = absurd (laws.program_or_fault _ _ _ p g)
one_lines laws cards x y (IsProgramIn.parsed p) (IsProgramIn.parsed q) = laws.one_program _ _ _ p q

pub one_read : Laws → (source : List ℕ) → One Same (IsProgramOf source)
one_read laws source = one_then Same (AreCardsOf source) IsProgramIn (one_cards laws source) (one_lines laws)

-- a source is at most one legal program, or has one first fault
pub one_legal : Laws → (source : List ℕ) → One Same (IsLegalProgramOf source)
one_legal laws source =
    one_then Same (IsProgramOf source) IsJudged (one_read laws source) (λ program. one_value (first_or (λ f. Check f) (faults program) program))
