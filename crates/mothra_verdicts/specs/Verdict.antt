-- The verdict of running a mutant alone (DeMillo, Lipton and Sayward 1978): which tests kill it.
use Rattle.std.specs.Prelude.{◌≡◌, ◌≢◌, ◌≤◌, ⊤, ℕ, Bool, true, false, List, length, Option, Some}
use Rattle.std.specs.List.{AllZip}
use Rattle.f77_program.specs.Program.{LineFields}
use Rattle.f77_program.specs.Patching.{patched}
use Rattle.f77_meaning.specs.Interpreter.{IsOutcomeOf}
use Rattle.f77_meaning.specs.declared.argument.Arg.{Arg}
use Rattle.f77_meaning.specs.declared.outcome.Outcome.{Outcome}
use Rattle.mothra_ops.specs.Edits.{numbered}
use Rattle.mothra_ops.specs.Mutants.{MutantFields, mutant_made, mutant_of, program_of}
use Rattle.mothra_ops.specs.Plan.{PlanFields, edits_of}
use Rattle.mothra_ops.specs.declared.edit.Edit.{Edit}
use Rattle.mothra_codes.specs.declared.op.Op.{Op}
use Rattle.mothra_codes.specs.declared.ticket.Ticket.{Ticket}
use Rattle.mothra_verdicts.specs.Bench.{BenchFields}
use Rattle.mothra_verdicts.specs.declared.fault.BenchFault.{BenchFault}
use Rattle.mothra_verdicts.specs.declared.fault.BenchFault.TheVariants as fault

-- Rule: a kill, a verdict, B3 to B6
-- Whether a test kills the mutant: its outcome is another one
-- than that of the program, by its kind or by a value.
pub data IsKill (program mutant : List LineFields) (arguments : List Arg) (steps : ℕ) : Bool
    → Type 0 where
  killed : {outcome other : Outcome}
      → IsOutcomeOf program arguments steps outcome → IsOutcomeOf mutant arguments steps other
      → outcome ≢ other → IsKill program mutant arguments steps true
  survived : {outcome : Outcome}
      → IsOutcomeOf program arguments steps outcome → IsOutcomeOf mutant arguments steps outcome
      → IsKill program mutant arguments steps false

-- Rule: a kill, a verdict, B3 to B6
-- for each test, whether it kills the mutant
abbrev pub IsAlone : List LineFields → List LineFields → ℕ → List (List Arg) → List Bool → Type 0
IsAlone program mutant steps tests kills =
    AllZip (λ arguments kill. IsKill program mutant arguments steps kill) tests kills

-- the program that a mutant is
abbrev pub mutated : List LineFields → MutantFields → List LineFields
mutated program mutant = patched program mutant.number mutant.statement

-- the plan has the ticket's mutant
abbrev pub HasMutant : PlanFields → Ticket → Type 0
HasMutant plan ticket = (1 ≤ ticket.number) × (ticket.number ≤ length (edits_of plan ticket.op))

-- item k of the operator's list, counted from 1: ticket k of the operator means this item
abbrev pub item_of : PlanFields → Op → ℕ → Option Edit
item_of plan op k = numbered (edits_of plan op) k

-- Rule: a kill, a verdict, B3 to B6
-- the kills are the verdict of running the ticket's mutant alone on each test
pub record IsVerdict (bench : BenchFields) (ticket : Ticket) (kills : List Bool) : Type 0 where
  pub mutant : MutantFields
  pub is : mutant_of bench.plan ticket.op ticket.number ≡ Some mutant
  pub alone : IsAlone (program_of bench.plan) (mutated (program_of bench.plan) mutant)
      bench.steps bench.tests kills

-- the kills are the verdict of running alone, on each test, the mutant
-- which the item of the ticket makes
pub record IsItemVerdict (bench : BenchFields) (ticket : Ticket) (kills : List Bool) : Type 0 where
  pub edit : Edit
  pub item : item_of bench.plan ticket.op ticket.number ≡ Some edit
  pub mutant : MutantFields
  pub makes : mutant_made (program_of bench.plan) edit ≡ Some mutant
  pub alone : IsAlone (program_of bench.plan) (mutated (program_of bench.plan) mutant)
      bench.steps bench.tests kills

-- the faults for which there is no verdict: out of memory, or B8 where the plan has no such mutant
abbrev pub IsNoVerdict : PlanFields → Ticket → BenchFault → Type 0
IsNoVerdict plan ticket fault.Memory = ⊤
IsNoVerdict plan ticket (fault.Stranger other) = (other ≡ ticket) × ¬ (HasMutant plan ticket)
IsNoVerdict plan ticket _ = ⊥
