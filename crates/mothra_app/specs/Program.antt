-- The program of a job, and the plan of its mutants.
use Rattle.std.specs.Prelude.{◌≡◌, ◌≤◌, ◌<◌, ◌↔◌, ℕ, IsTrue, Contains, List, length, None, Result, Ok, Err}
use Rattle.f77_source.specs.Card.{CardFields}
use Rattle.f77_source.specs.Read as form
use Rattle.f77_source.specs.Read.{AreCards, lines}
use Rattle.f77_source.specs.declared.fault.FormFault.{FormFault}
use Rattle.f77_source.specs.declared.fault.FormFault.TheVariants.{TooLarge}
use Rattle.f77_syntax.specs.Parsing as syntax
use Rattle.f77_program.specs.Program.{LineFields}
use Rattle.f77_syntax.specs.Parsing.{AreLines}
use Rattle.f77_program.specs.declared.fault.SyntaxFault.{SyntaxFault}
use Rattle.f77_legal.specs.Legal.{faults}
use Rattle.mothra_app.specs.Stages.{InTurn, first_or}
use Rattle.mothra_app.specs.declared.fault.Fault.{Fault}
use Rattle.mothra_app.specs.declared.fault.Fault.TheVariants.{Form, Syntax, Check, Ops}
use Rattle.mothra_codes.specs.declared.op.Op.{Op}
use Rattle.mothra_ops.specs.Mutants.{program_of}
use Rattle.mothra_ops.specs.Plan.{IsFirstTooLong, IsPlan, PlanFields, asked}
use Rattle.mothra_replacements.specs.declared.fault.OpsFault.TheVariants.{TooMany}

-- The cards that a source is, or its first fault.
pub data AreCardsOf (source : List ℕ) : Result (List CardFields) Fault → Type 0 where
  too_large : 65536 < length source → AreCardsOf source (Err (Form TooLarge))
  no_cards : {fault : FormFault}
      → length source ≤ 65536 → form.IsFirstFormFault (lines source) fault
      → AreCardsOf source (Err (Form fault))
  read : {cards : List CardFields}
      → length source ≤ 65536 → AreCards 1 (lines source) cards → AreCardsOf source (Ok cards)

-- The program that cards are, or their first fault.
pub data IsProgramIn (cards : List CardFields) : Result (List LineFields) Fault → Type 0 where
  no_program : {fault : SyntaxFault}
      → syntax.IsFirstSyntaxFault None cards fault → IsProgramIn cards (Err (Syntax fault))
  parsed : {program : List LineFields}
      → AreLines None cards program → IsProgramIn cards (Ok program)

-- the program that a source is, or its first fault, where faults of lines come before those of
-- cards
abbrev pub IsProgramOf : List ℕ → Result (List LineFields) Fault → Type 0
IsProgramOf source = InTurn (AreCardsOf source) IsProgramIn

-- the program where it is legal, or its first fault
abbrev pub IsJudged : List LineFields → Result (List LineFields) Fault → Type 0
IsJudged program judged = judged ≡ first_or Check (faults program) program

-- the legal program that a source is, or its first fault
abbrev pub IsLegalProgramOf : List ℕ → Result (List LineFields) Fault → Type 0
IsLegalProgramOf source = InTurn (IsProgramOf source) IsJudged

-- the plan of the program for these operators, where every q-th item of their lists is kept, and q
-- is `every`
pub record IsPlanOf (program : List LineFields) (ops : List Op) (every : ℕ)
    (plan : PlanFields) : Type 0 where
  pub own : program_of plan ≡ program
  pub kept : plan.every ≡ every
  pub asked : (op : Op) → IsTrue (asked plan op) ↔ Contains ops op
  pub is : IsPlan plan

-- The plan of a program for these operators, or the first of them whose list is too long.
pub data IsPlanIn (ops : List Op) (every : ℕ) (program : List LineFields) : Result PlanFields Fault
    → Type 0 where
  too_many : {op : Op} → IsFirstTooLong ops program every op
      → IsPlanIn ops every program (Err (Ops (TooMany op)))
  made : {plan : PlanFields} → IsPlanOf program ops every plan
      → IsPlanIn ops every program (Ok plan)

-- the plan of the program that a source is for these operators, or the first fault
abbrev pub IsPlanned : List ℕ → List Op → ℕ → Result PlanFields Fault → Type 0
IsPlanned source ops every = InTurn (IsLegalProgramOf source) (IsPlanIn ops every)
