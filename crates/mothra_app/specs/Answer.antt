-- What a program promises of its answers: to a request, and to words that are no request.
use Rattle.std.specs.Prelude.{◌≡◌, ◌≢◌, ◌≤◌, ◌⊎◌, ◌∷◌, ℕ, List, Contains}
use Rattle.std.specs.Prelude.{String, Result, Ok, Err, length, string_bytes}
use Rattle.clap.specs.declared.error.kind.ErrorKind.{ErrorKind}
use Rattle.clap.specs.declared.error.kind.ErrorKind.TheVariants as kind
use Rattle.mothra_app.specs.Line.{fault_line}
use Rattle.mothra_app.specs.declared.fault.Fault.{Fault}
use Rattle.mothra_app.specs.declared.fault.Fault.TheVariants.{Job}
use Rattle.mothra_app.specs.declared.status.Status.{Status}
use Rattle.mothra_app.specs.declared.status.Status.TheVariants as status
use Rattle.mothra_app.specs.Stages.{GivesOutcome}
use Rattle.mothra_cli.specs.Asking.{CommandLine}
use Rattle.mothra_job.specs.Job.{JobFields, JobRead}
use Rattle.mothra_job.specs.declared.job.JobFault.TheVariants as job
use denote.Ref.{Bor}

-- the outcome of a request: the text of its report, or the first fault
abbrev pub Outcome : Type 0
Outcome = Result (List ℕ) Fault

-- what a program promises: how words are read, which outcome a request has on a job,
-- and the faults beside J1 that may come in the place of any outcome
pub record Promise (Q : Type 0) : Type 1 where
  pub line : CommandLine Q
  pub IsOutcome : Q → JobFields → Outcome → Type 0
  pub faults : Q → List Fault

-- what words may ask for on a job that was read: numbers are
-- within the bounds of their options, and there are few tests
abbrev pub IsTask : {Q : Type 0} → Promise Q → Q → JobFields → Type 0
IsTask promise request job = promise.line.IsBounded request × (length job.suite ≤ 256)

-- the call with this condition and these results may be made for each task, and
-- gives its outcome, or a fault that may come in the place of any outcome
pub record KeepsPromise {Q Z : Type 0} (promise : Promise Q) (pre : Bor Q → JobFields → Type 0)
    (post : Bor Q → JobFields → Result (String Z) Fault → Type 0) : Type 0 where
  pub callable : (request : Bor Q) (job : JobFields) → IsTask promise request.now job
      → pre request job
  pub gives : (request : Bor Q) (job : JobFields) (result : Result (String Z) Fault)
      → IsTask promise request.now job → post request job result
      → GivesOutcome string_bytes (promise.IsOutcome request.now job) (promise.faults request.now)
      result

-- the outcome of the request on a job, or on bytes that are no job
abbrev pub IsRequestOutcome : {Q : Type 0} → Promise Q → Q → JobRead → Outcome → Type 0
IsRequestOutcome promise request (Err fault) outcome = outcome ≡ Err (Job fault)
IsRequestOutcome promise request (Ok job) outcome = promise.IsOutcome request job outcome

-- Rule: lines of faults, want of memory
-- the faults that may come in the place of any answer to the request
abbrev pub faults_in_place : {Q : Type 0} → Promise Q → Q → List Fault
faults_in_place promise request = Job job.Memory ∷ promise.faults request

-- The status and the text of the outcome of a request: its report, or the line of the first fault.
pub data IsOutcomeAnswer {Q : Type 0} (promise : Promise Q) (request : Q) (read : JobRead) : Status
    → List ℕ → Type 0 where
  report : {text : List ℕ} → IsRequestOutcome promise request read (Ok text)
      → IsOutcomeAnswer promise request read status.Report text
  fault : (fault : Fault) → IsRequestOutcome promise request read (Err fault)
      → IsOutcomeAnswer promise request read status.Fault (fault_line fault)

-- The answer to a request: the text of its outcome, or the
-- line of a fault that may come in the place of any outcome.
pub data IsAnswer {Q : Type 0} (promise : Promise Q) (request : Q) (read : JobRead) : Status
    → List ℕ → Type 0 where
  of_outcome : {status : Status} {text : List ℕ}
      → IsOutcomeAnswer promise request read status text
      → IsAnswer promise request read status text
  broken_off : (fault : Fault) → Contains (faults_in_place promise request) fault
      → IsAnswer promise request read status.Fault (fault_line fault)

-- the status of the answer to words for which the command line has an error
-- of this kind: it refuses them, or they ask for help or the version
abbrev pub IsRefusal : ErrorKind → Status → Type 0
IsRefusal cause status.Report = ⊥
IsRefusal cause status.Fault = ⊥
IsRefusal cause status.Words =
    (cause ≢ kind.DisplayHelp) × (cause ≢ kind.DisplayVersion) × (cause ≢ kind.OutOfMemory)
IsRefusal cause status.Help = (cause ≡ kind.DisplayHelp) ⊎ (cause ≡ kind.DisplayVersion)
