-- A line can not be printed exactly where its card can not be written.
use Rattle.f77_program.proofs.Common.{◌≡◌, [], ap, ◌∙◌, List, map, sym, ◌∷◌, refl, true, Bool, false, None, Option, Some, option_map, cond, nat_lt, IsSome, inl}
use Rattle.f77_program.proofs.Common.{inr, ◌⊎◌, slice_get, cons_option, IsProgram, statement_text, LineFields, card_of, print_fault, print_faults}
use Rattle.f77_program.proofs.Common.{statement_formed, reported_fault, Group, card_faults, card_fault, continuation_count, is_bad_label, is_name}
use Rattle.f77_source.specs.declared.fault.FormFault.{FormFault}
use Rattle.f77_source.specs.declared.fault.FormFault.TheVariants.{BadLabel, TooManyContinuations}
use Rattle.f77_program.specs.declared.fault.SyntaxFault.{SyntaxFault}
use Rattle.f77_program.specs.declared.fault.SyntaxFault.TheVariants.{Memory, BadConstant, TooLong}
use Rattle.f77_program.proofs.StatementForming.{is_formed}
use Rattle.f77_program.proofs.StatementPlain.{printable_statement}

-- each statement is one that some text spells
abbrev pub AreFormed : List LineFields → Type 0
AreFormed [] = Unit {0}
AreFormed (line ∷ lines) = (statement_formed is_name line.stmt ≡ true) × AreFormed lines

pub program_formed : {before : Option Group} {lines : List LineFields} → IsProgram before lines → AreFormed lines
program_formed IsProgram.finished = tt
program_formed (IsProgram.next {line = line} may rest) = (is_formed line.stmt may.1, program_formed rest)

-- the fault of a line is the one that belongs to the fault of its card
line_reported : (line : LineFields) → statement_formed is_name line.stmt ≡ true → option_map reported_fault (card_fault (card_of line)) ≡ option_map Some (print_fault line)
unfolding card_fault print_fault
line_reported line f = rw (printable_statement line.stmt f) (step (is_bad_label line.label) (nat_lt 19 (continuation_count (statement_text line.stmt))))
  where
    step : (b d : Bool) → option_map reported_fault (cond b (Some (BadLabel line.line)) (cond d (Some (TooManyContinuations line.line)) None))
        ≡ option_map Some (cond b (Some (BadConstant line.line)) (cond d (Some (TooLong line.line)) None))
    step true d = refl
    step false true = refl
    step false false = refl

one_reported : (o : Option FormFault) (p : Option SyntaxFault) (faults : List FormFault) (others : List SyntaxFault)
    → option_map reported_fault o ≡ option_map Some p → map reported_fault faults ≡ map Some others → map reported_fault (cons_option o faults) ≡ map Some (cons_option p others)
one_reported None None faults others e h = h
one_reported None (Some said) faults others e h = cc
one_reported (Some fault) None faults others e h = cc
one_reported (Some fault) (Some said) faults others e h = cc

faults_reported : (lines : List LineFields) → AreFormed lines → map reported_fault (card_faults (map card_of lines)) ≡ map Some (print_faults lines)
faults_reported [] f = refl
faults_reported (line ∷ lines) f =
    one_reported (card_fault (card_of line)) (print_fault line) (card_faults (map card_of lines)) (print_faults lines) (line_reported line f.0) (faults_reported lines f.1)

no_faults : (faults : List SyntaxFault) → map Some faults ≡ [] → faults ≡ []
no_faults [] e = refl
no_faults (fault ∷ faults) e = cc

pub printed_whole : (lines : List LineFields) → AreFormed lines → card_faults (map card_of lines) ≡ [] → print_faults lines ≡ []
printed_whole lines f none = no_faults (print_faults lines) (sym (faults_reported lines f) ∙ ap (map reported_fault) none)

-- where no line has a fault, no card has
none_reported : (faults : List FormFault) → map reported_fault faults ≡ [] → faults ≡ []
none_reported [] e = refl
none_reported (fault ∷ faults) e = cc

pub written_whole : (lines : List LineFields) → AreFormed lines → print_faults lines ≡ [] → card_faults (map card_of lines) ≡ []
written_whole lines f none = none_reported (card_faults (map card_of lines)) (faults_reported lines f ∙ ap (map Some) none)

-- the first of the faults gives the first of the faults that belong to them
first_reported : (faults : List FormFault) (others : List SyntaxFault) (fault : FormFault) → map reported_fault faults ≡ map Some others
    → slice_get faults 0 ≡ Some fault → (said : SyntaxFault) × (slice_get others 0 ≡ Some said) × (reported_fault fault ≡ Some said)
first_reported [] others fault e h = cc
first_reported (f ∷ faults) [] fault e h = cc
first_reported (f ∷ faults) (said ∷ others) fault e h = (said, refl, (cc))

-- the fault with which the writer refuses these cards
abbrev pub IsRefusal : List LineFields → FormFault → Type 0
IsRefusal lines fault = (slice_get (card_faults (map card_of lines)) 0 ≡ Some fault) ⊎ (fault ≡ FormFault.Memory)

pub is_reported : (lines : List LineFields) (fault : FormFault) → AreFormed lines → IsRefusal lines fault → IsSome (reported_fault fault)
is_reported lines fault f (inl first) =
    let (said, here, same) = first_reported (card_faults (map card_of lines)) (print_faults lines) fault (faults_reported lines f) first in rw same refl
is_reported lines fault f (inr memory) = rw memory refl

pub first_refused : (lines : List LineFields) (fault : FormFault) (said : SyntaxFault) → AreFormed lines → reported_fault fault ≡ Some said
    → IsRefusal lines fault → (slice_get (print_faults lines) 0 ≡ Some said) ⊎ (said ≡ Memory)
first_refused lines fault said f same (inl first) =
    let (found, here, is) = first_reported (card_faults (map card_of lines)) (print_faults lines) fault (faults_reported lines f) first in inl (cc)
first_refused lines fault said f same (inr memory) = let is : reported_fault FormFault.Memory ≡ Some said = rw memory at same in inr (cc)
