-- The report with which a job is served is that of a bench of the job.
use Rattle.mothra_app.proofs.Common.{ℕ, List, Err, Ok, refl, Text, AsksFor, InTurn, IsOutcomeAnswer, IsReported, IsReportOf, IsServed, ReportsJob, Op, job_of}
use Rattle.mothra_app.proofs.Common.{JobFields, JobRead, mothra_line, mothra_promise}
use Rattle.mothra_cli.specs.declared.request.Request.TheVariants as command
use Rattle.mothra_app.specs.declared.status.Status.TheVariants as status
use Rattle.mothra_app.proofs.OneAnswer.{asked_answer}

of_job : (job : JobFields) (operators : List Op) (every steps : ℕ) (text : List ℕ) → IsReported job operators every steps (Ok text)
    → ReportsJob (Ok job) operators every steps text
of_job job operators every steps text (InTurn.gave {a = bench} of (IsReportOf.report is)) =
    record { job = job; is_job = refl; bench = bench; of_job = of; report = is }

of_read : (operators : List Op) (every steps workers : ℕ) (read : JobRead) (text : List ℕ)
    → IsOutcomeAnswer mothra_promise (command.Run operators every steps workers) read status.Report text → ReportsJob read operators every steps text
of_read operators every steps workers (Ok job) text (IsOutcomeAnswer.report is) = of_job job operators every steps text is
of_read operators every steps workers (Err fault) text (IsOutcomeAnswer.report is) = absurd (cc)

pub reported : (words : List Text) (operators : List Op) (every steps workers : ℕ) (bytes text : List ℕ)
    → AsksFor mothra_line words (command.Run operators every steps workers) → IsServed words bytes status.Report text
    → ReportsJob (job_of bytes) operators every steps text
reported words operators every steps workers bytes text asks served =
    of_read operators every steps workers (job_of bytes) text
    (asked_answer words bytes (command.Run operators every steps workers) status.Report text asks served)
