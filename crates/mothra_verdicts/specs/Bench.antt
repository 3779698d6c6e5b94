-- A bench: a plan, the tests on which its mutants are run,
-- and the outcome of the program itself on each.
use Rattle.std.specs.Prelude.{◌≡◌, ◌≢◌, ◌+◌, ◌≤◌, ⊤, ℕ, true, List, ◌∷◌, ◌++◌, length, All, AllPairs, Contains, None}
use Rattle.std.specs.List.{AllZip}
use Rattle.f77_program.specs.Program.{LineFields}
use Rattle.f77_check.specs.Checked.{shapes}
use Rattle.f77_meaning.specs.Interpreter.{IsEnd, IsOutcomeOf, refusal}
use Rattle.f77_meaning.specs.declared.argument.Arg.{Arg}
use Rattle.f77_meaning.specs.declared.outcome.Outcome.{Outcome}
use Rattle.mothra_ops.specs.Mutants.{program_of, original_number}
use Rattle.mothra_ops.specs.Plan.{PlanFields, asked, whole_of}
use Rattle.mothra_codes.specs.Ticket.{ticket}
use Rattle.mothra_codes.specs.declared.ticket.Ticket.{Ticket}
use Rattle.mothra_verdicts.specs.declared.fault.BenchFault.{BenchFault}
use Rattle.mothra_verdicts.specs.declared.fault.BenchFault.TheVariants as fault

-- The plan, the values that each test gives to the dummy arguments, the
-- limit on steps, the outcome of the program on each test, and the mutants
-- that are declared equivalent, with their numbers in the whole lists.
pub record BenchFields : Type 0 where
  pub plan : PlanFields
  pub tests : List (List Arg)
  pub steps : ℕ
  pub outcomes : List Outcome
  pub declared : List Ticket

abbrev pub most_tests : ℕ
most_tests = 256

-- Rule: a kill, a verdict, B3 to B6
-- the values fit the dummy arguments of the program
abbrev pub FitsProgram : List LineFields → List Arg → Type 0
FitsProgram program arguments = refusal (shapes program) arguments ≡ None

-- the outcomes of the program on the tests
abbrev pub AreOutcomes : List LineFields → ℕ → List (List Arg) → List Outcome → Type 0
AreOutcomes program steps tests outcomes =
    AllZip (λ arguments outcome. IsOutcomeOf program arguments steps outcome) tests outcomes

-- Rule: a kill, a verdict, B3 to B6
-- the program returns or stops on the test within the limit on steps
abbrev pub EndsOn : List LineFields → ℕ → List Arg → Type 0
EndsOn program steps arguments =
    (outcome : Outcome) × IsOutcomeOf program arguments steps outcome × IsEnd outcome

-- a declared entry names a mutant of the whole list of its
-- operator, where the plan was asked for this operator
abbrev pub IsKnownEntry : PlanFields → Ticket → Type 0
IsKnownEntry plan entry =
    asked plan entry.op ≡ true → (1 ≤ entry.number) × (entry.number ≤ whole_of plan entry.op)

-- the declared entries name mutants, each once; entries of
-- operators that the plan was not asked for are passed over
pub record AreFine (plan : PlanFields) (entries : List Ticket) : Type 0 where
  pub known : All (IsKnownEntry plan) entries
  pub once : AllPairs (λ one other. asked plan one.op ≡ true → one ≢ other) entries

-- the invariant of a bench
pub record IsBench (bench : BenchFields) : Type 0 where
  pub few : length bench.tests ≤ most_tests
  pub fit : All (FitsProgram (program_of bench.plan)) bench.tests
  pub outcomes : AreOutcomes (program_of bench.plan) bench.steps bench.tests bench.outcomes
  pub end : All IsEnd bench.outcomes
  pub declared : AreFine bench.plan bench.declared

-- item number n, from 1, is the first of which P does not hold
pub record IsFirstNot {X : Type 0} (P : X → Type 0) (xs : List X) (n : ℕ) : Type 0 where
  pub before : List X
  pub item : X
  pub after : List X
  pub cut : xs ≡ before ++ item ∷ after
  pub number : n ≡ length before + 1
  pub hold : All P before
  pub fails : ¬ (P item)

-- Entry number n, from 1, is the first that is not fine: it names no mutant.
pub record IsUnknownEntry (plan : PlanFields) (entries : List Ticket) (n : ℕ) : Type 0 where
  pub before : List Ticket
  pub entry : Ticket
  pub after : List Ticket
  pub cut : entries ≡ before ++ entry ∷ after
  pub number : n ≡ length before + 1
  pub fine : AreFine plan before
  pub unknown : ¬ (IsKnownEntry plan entry)

-- Entry number n, from 1, is the first that is not fine: it
-- names a mutant that an earlier entry names.
pub record IsEntryTwice (plan : PlanFields) (entries : List Ticket) (n : ℕ) : Type 0 where
  pub before : List Ticket
  pub entry : Ticket
  pub after : List Ticket
  pub cut : entries ≡ before ++ entry ∷ after
  pub number : n ≡ length before + 1
  pub fine : AreFine plan before
  pub asked : asked plan entry.op ≡ true
  pub known : IsKnownEntry plan entry
  pub twice : Contains before entry

-- Rule: a kill, a verdict, B3 to B6
-- The faults for which there is no bench: out of memory; the first test that does not fit; else
-- the first test on which the program does not end; else the first entry that is not fine.
abbrev pub IsNoBench : PlanFields → List (List Arg) → ℕ → List Ticket → BenchFault → Type 0
IsNoBench plan tests steps declared fault.Memory = ⊤
IsNoBench plan tests steps declared (fault.TestShape test) =
    IsFirstNot (FitsProgram (program_of plan)) tests test
IsNoBench plan tests steps declared (fault.OriginalFails test) =
    All (FitsProgram (program_of plan)) tests
    × IsFirstNot (EndsOn (program_of plan) steps) tests test
IsNoBench plan tests steps declared (fault.EquivalentUnknown entry) =
    All (FitsProgram (program_of plan)) tests
    × All (EndsOn (program_of plan) steps) tests × IsUnknownEntry plan declared entry
IsNoBench plan tests steps declared (fault.EquivalentTwice entry) =
    All (FitsProgram (program_of plan)) tests
    × All (EndsOn (program_of plan) steps) tests × IsEntryTwice plan declared entry
IsNoBench plan tests steps declared _ = ⊥

-- the mutant is declared equivalent, by its number in the whole list
abbrev pub IsDeclared : BenchFields → Ticket → Type 0
IsDeclared bench one =
    Contains bench.declared (ticket one.op (original_number bench.plan.every one.number))
