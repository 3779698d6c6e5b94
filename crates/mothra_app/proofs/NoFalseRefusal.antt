-- A legal job is answered with its report, or with a fault for lack of memory or of a thread.
use Rattle.mothra_app.proofs.Common.{◌≡◌, sym, ℕ, subst, List, ◌∙◌, ap, [], Contains, Some, ◌∷◌, None, All, All-cons, All-nil, All-contains, Text}
use Rattle.mothra_app.proofs.Common.{of_legal_programs, of_mutants, of_programs, AsksFor, IsAnswer, IsServed, MayBeWritten, command_faults}
use Rattle.mothra_app.proofs.Common.{faults_in_place, IsFairAnswer, IsLegalJob, IsOutOfResources, Fault, Ops, Syntax, Bench, Check, Form, Run, Job, Status}
use Rattle.mothra_app.proofs.Common.{HasBadOperators, meaning_of, mothra_line, mothra_promise, request_in, Request, job_of}
use Rattle.clap.specs.Kinds.{IsAmong}
use Rattle.f77_source.specs.declared.fault.FormFault.TheVariants as form
use Rattle.f77_program.specs.declared.fault.SyntaxFault.TheVariants as syntax
use Rattle.f77_legal.specs.declared.fault.CheckFault.TheVariants as check
use Rattle.f77_meaning.specs.declared.outcome.RunFault.TheVariants as run
use Rattle.mothra_replacements.specs.declared.fault.OpsFault.TheVariants as ops
use Rattle.mothra_verdicts.specs.declared.fault.BenchFault.TheVariants as bench
use Rattle.mothra_cli.specs.declared.request.Request.TheVariants as command
use Rattle.mothra_job.specs.declared.job.JobFault.TheVariants as job
use Rattle.mothra_app.specs.declared.status.Status.TheVariants as status

-- ---- the answer

-- for the same words and bytes there is at most one status and one text
abbrev pub OneAnswer : Type 0
OneAnswer = (words : List Text) (bytes : List ℕ) (status other : Status) (text also : List ℕ)
    → IsServed words bytes status text → IsServed words bytes other also → (status ≡ other) × (text ≡ also)

-- words with a bad list of operators are no request
asks_nothing : {A : Type 0} (words : List Text) (request : Request) → request_in (meaning_of mothra_line words) ≡ Some request → HasBadOperators mothra_line words → A
asks_nothing words request is bad = let none : Some request ≡ None = sym is ∙ ap request_in bad in absurd (cc)

module _ (words : List Text) (bytes report : List ℕ) (law : OneAnswer) (legal : IsLegalJob words bytes report) where
  of_request : (request : Request) (s : Status) (text : List ℕ) → AsksFor mothra_line words request → IsAnswer mothra_promise request (job_of bytes) s text
      → IsFairAnswer words report s text
  of_request request s text asks (IsAnswer.of_outcome answered) =
      let same = law words bytes status.Report s report text legal.served (request, asks, answered) in
      subst (λ v. IsFairAnswer words report v text) same.0 (subst (IsFairAnswer words report status.Report) same.1 IsFairAnswer.whole)
  of_request request s text asks (IsAnswer.broken_off fault may) = IsFairAnswer.broken_off fault asks may

  pub fair : (s : Status) (text : List ℕ) → MayBeWritten mothra_promise words bytes s text → IsFairAnswer words report s text
  fair s text (MayBeWritten.answer {request = request} asks is) = of_request request s text asks is
  fair s text (MayBeWritten.bad_list bad) = asks_nothing words legal.served.0 legal.served.1.is bad
  fair s text (MayBeWritten.refusal cause is among) = absurd (subst (IsAmong cause) legal.taken among)

-- ---- the faults for which it breaks off

in_programs : All IsOutOfResources of_programs
in_programs =
    All-cons IsOutOfResources (Form form.Memory) (Syntax syntax.Memory ∷ []) tt (All-cons IsOutOfResources (Syntax syntax.Memory) [] tt (All-nil IsOutOfResources))

in_legal_programs : All IsOutOfResources of_legal_programs
in_legal_programs = All-cons IsOutOfResources (Check check.Memory) of_programs tt in_programs

in_mutants : All IsOutOfResources of_mutants
in_mutants = All-cons IsOutOfResources (Ops ops.Memory) of_legal_programs tt in_legal_programs

in_place : (request : Request) → All IsOutOfResources (command_faults request)
in_place command.Print = in_programs
in_place (command.Exec test steps) = All-cons IsOutOfResources (Run run.Memory) of_legal_programs tt in_legal_programs
in_place (command.List operators every) = in_mutants
in_place (command.Run operators every steps workers) =
    All-cons IsOutOfResources (Bench bench.Memory) (Bench bench.Thread ∷ of_mutants) tt
    (All-cons IsOutOfResources (Bench bench.Thread) of_mutants tt in_mutants)

pub out_of_resources : (request : Request) (fault : Fault) → Contains (faults_in_place mothra_promise request) fault → IsOutOfResources fault
out_of_resources request fault may =
    All-contains IsOutOfResources (faults_in_place mothra_promise request) fault
    (All-cons IsOutOfResources (Job job.Memory) (command_faults request) tt (in_place request)) may
