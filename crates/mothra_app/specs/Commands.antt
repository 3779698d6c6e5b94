-- The four commands of the program `mothra`.
use Rattle.std.specs.Prelude.{List}
use Rattle.mothra_app.specs.Answer.{Outcome, Promise}
use Rattle.mothra_app.specs.Executing.{IsExecuted}
use Rattle.mothra_app.specs.Fault.{of_mutants, of_programs, of_reports, of_runs}
use Rattle.mothra_app.specs.Listing.{IsListed}
use Rattle.mothra_app.specs.Printing.{IsPrinted}
use Rattle.mothra_app.specs.Reporting.{IsReported}
use Rattle.mothra_app.specs.declared.fault.Fault.{Fault}
use Rattle.mothra_cli.specs.Request.{mothra_line}
use Rattle.mothra_cli.specs.declared.request.Request.{Request}
use Rattle.mothra_cli.specs.declared.request.Request.TheVariants as command
use Rattle.mothra_job.specs.Job.{JobFields}

-- Rule: the four commands
-- the outcome of the request on a job
abbrev pub IsCommandOutcome : Request → JobFields → Outcome → Type 0
IsCommandOutcome command.Print job outcome = IsPrinted job outcome
IsCommandOutcome (command.Exec test steps) job outcome = IsExecuted job test steps outcome
IsCommandOutcome (command.List operators every) job outcome = IsListed job operators every outcome
IsCommandOutcome (command.Run operators every steps workers) job outcome =
    IsReported job operators every steps outcome

-- the faults beside J1 that may come in the place of any
-- outcome: lack of memory, and for `run` also of a thread
abbrev pub command_faults : Request → List Fault
command_faults command.Print = of_programs
command_faults (command.Exec test steps) = of_runs
command_faults (command.List operators every) = of_mutants
command_faults (command.Run operators every steps workers) = of_reports

abbrev pub mothra_promise : Promise Request
mothra_promise = record {
  line = mothra_line;
  IsOutcome = IsCommandOutcome;
  faults = command_faults;
}
