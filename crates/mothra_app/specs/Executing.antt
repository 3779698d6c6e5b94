-- The command `exec`: the outcome of the program of a job on one of its tests.
use Rattle.std.specs.Prelude.{◌≡◌, ℕ, List, Some, None, Result, Ok, Err}
use Rattle.std.specs.Option.{option_map_or}
use Rattle.f77_program.specs.Program.{LineFields}
use Rattle.f77_check.specs.Checked.{shapes}
use Rattle.f77_meaning.specs.Interpreter.{IsOutcomeOf, refusal}
use Rattle.f77_meaning.specs.declared.argument.Arg.{Arg}
use Rattle.f77_meaning.specs.declared.outcome.Outcome.{Outcome}
use Rattle.f77_meaning.specs.declared.outcome.RunFault.{RunFault}
use Rattle.mothra_job.specs.Job.{JobFields, test_at}
use Rattle.mothra_app.specs.Stages.{InTurn}
use Rattle.mothra_app.specs.OutcomeLine.{outcome_line}
use Rattle.mothra_app.specs.Program.{IsLegalProgramOf}
use Rattle.mothra_app.specs.declared.fault.Fault.{Fault}
use Rattle.mothra_app.specs.declared.fault.Fault.TheVariants.{Job, Run}
use Rattle.mothra_job.specs.declared.job.JobFault.TheVariants.{NoTest}

-- The line of the outcome of a run with these arguments and
-- this limit on steps, or the fault why the program is not run.
pub data IsRunLine (program : List LineFields) (steps : ℕ) (arguments : List Arg) : Result (List ℕ)
    Fault → Type 0 where
  misfit : {fault : RunFault} → refusal (shapes program) arguments ≡ Some fault
      → IsRunLine program steps arguments (Err (Run fault))
  outcome : {answer : Outcome}
      → refusal (shapes program) arguments ≡ None → IsOutcomeOf program arguments steps answer
      → IsRunLine program steps arguments (Ok (outcome_line answer))

-- the test with this number, or J8
abbrev pub IsTestOf : List (List Arg) → ℕ → Result (List Arg) Fault → Type 0
IsTestOf suite number test =
    test ≡ option_map_or (λ values. Ok values) (test_at suite number) (Err (Job (NoTest number)))

-- the line of the outcome of a program on a test of the job
abbrev pub IsTestLine : JobFields → ℕ → ℕ → List LineFields → Result (List ℕ) Fault → Type 0
IsTestLine job test steps program = InTurn (IsTestOf job.suite test) (IsRunLine program steps)

-- Rule: the four commands
-- the outcome of `exec` for a test of a job and a limit on steps; J8 comes after the faults of the
-- program
abbrev pub IsExecuted : JobFields → ℕ → ℕ → Result (List ℕ) Fault → Type 0
IsExecuted job test steps = InTurn (IsLegalProgramOf job.source) (IsTestLine job test steps)
