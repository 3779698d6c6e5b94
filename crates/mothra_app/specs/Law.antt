-- Definitions of the laws on the program `mothra`.
use Rattle.std.specs.Prelude.{◌≡◌, ⊤, ℕ, List, [], Contains, Ok}
use Rattle.clap.specs.Words.{Text, fault_of}
use Rattle.f77_source.specs.declared.fault.FormFault.TheVariants as form
use Rattle.f77_program.specs.declared.fault.SyntaxFault.TheVariants as syntax
use Rattle.f77_legal.specs.declared.fault.CheckFault.TheVariants as check
use Rattle.f77_meaning.specs.declared.outcome.RunFault.TheVariants as run
use Rattle.mothra_codes.specs.declared.op.Op.{Op}
use Rattle.mothra_replacements.specs.declared.fault.OpsFault.TheVariants as ops
use Rattle.mothra_bench.specs.Analysis.{IsReport}
use Rattle.mothra_verdicts.specs.Bench.{BenchFields}
use Rattle.mothra_verdicts.specs.declared.fault.BenchFault.TheVariants as bench
use Rattle.mothra_cli.specs.Command.{mothra}
use Rattle.mothra_cli.specs.Asking.{AsksFor}
use Rattle.mothra_cli.specs.Request.{mothra_line}
use Rattle.mothra_cli.specs.declared.request.Request.{Request}
use Rattle.mothra_app.specs.Answer.{IsOutcomeAnswer, faults_in_place}
use Rattle.mothra_app.specs.Commands.{mothra_promise}
use Rattle.mothra_job.specs.Job.{JobFields, JobRead, job_of}
use Rattle.mothra_app.specs.Line.{fault_line}
use Rattle.mothra_app.specs.Reporting.{IsBenched}
use Rattle.mothra_app.specs.declared.fault.Fault.{Fault}
use Rattle.mothra_app.specs.declared.fault.Fault.TheVariants.{Job, Form, Syntax, Check, Run, Ops, Bench}
use Rattle.mothra_job.specs.declared.job.JobFault.TheVariants as job
use Rattle.mothra_app.specs.declared.status.Status.{Status}
use Rattle.mothra_app.specs.declared.status.Status.TheVariants as status

-- the status and the text with which words that are a request are served, for these bytes
abbrev pub IsServed : List Text → List ℕ → Status → List ℕ → Type 0
IsServed words bytes status text =
    (request : Request) × AsksFor mothra_line words request
    × IsOutcomeAnswer mothra_promise request (job_of bytes) status text

-- ---- the headline

-- The text is the report of a bench of the job that was read. A report has
-- each mutant of the bench's plan once, in order, with the verdict of running
-- it alone. The number of workers is no argument of this definition.
pub record ReportsJob (read : JobRead) (ops : List Op) (every steps : ℕ)
    (text : List ℕ) : Type 0 where
  pub job : JobFields
  pub is_job : read ≡ Ok job
  pub bench : BenchFields
  pub of_job : IsBenched job ops every steps (Ok bench)
  pub report : IsReport bench text

-- ---- no false refusal

-- the words and the bytes are those of a legal job: the command line
-- takes the words, and they are served with this report
pub record IsLegalJob (words : List Text) (bytes report : List ℕ) : Type 0 where
  pub taken : fault_of mothra words ≡ []
  pub served : IsServed words bytes status.Report report

-- The answers to a legal job: its report; or the line of a fault that may
-- come in the place of any answer to the request.
pub data IsFairAnswer (words : List Text) (report : List ℕ) : Status → List ℕ → Type 0 where
  whole : IsFairAnswer words report status.Report report
  broken_off : {request : Request} (fault : Fault) → AsksFor mothra_line words request
      → Contains (faults_in_place mothra_promise request) fault
      → IsFairAnswer words report status.Fault (fault_line fault)

-- the fault is lack of memory (J1, F1, S1, C1, N1, O1 or B1) or of a thread (B2)
abbrev pub IsOutOfResources : Fault → Type 0
IsOutOfResources (Job job.Memory) = ⊤
IsOutOfResources (Form form.Memory) = ⊤
IsOutOfResources (Syntax syntax.Memory) = ⊤
IsOutOfResources (Check check.Memory) = ⊤
IsOutOfResources (Run run.Memory) = ⊤
IsOutOfResources (Ops ops.Memory) = ⊤
IsOutOfResources (Bench bench.Memory) = ⊤
IsOutOfResources (Bench bench.Thread) = ⊤
IsOutOfResources _ = ⊥
