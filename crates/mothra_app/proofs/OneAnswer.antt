-- For the same words and bytes there is at most one status and one text.
use Rattle.mothra_app.proofs.Common.{◌≡◌, ℕ, subst, List, Err, Ok, ap, refl, Some, Option, Text, AsksFor, IsCommandOutcome, IsOutcomeAnswer, IsPrinted}
use Rattle.mothra_app.proofs.Common.{IsProgramOf, IsRequestOutcome, IsServed, IsTextOf, fault_line, first_or, Job, Syntax, Status, IsBounded, meaning_of, mothra_line}
use Rattle.mothra_app.proofs.Common.{mothra_promise, request_in, Request, Op, job_of, JobFields, JobRead}
use Rattle.f77_program.specs.Printing.{printed, print_faults}
use Rattle.mothra_cli.specs.declared.request.Request.TheVariants as command
use Rattle.mothra_app.specs.{Outcome}
use Rattle.mothra_app.proofs.EqualPlans.{one_listed}
use Rattle.mothra_app.proofs.Stages.{One, Same, one_then, one_value}
use Rattle.mothra_app.proofs.OneProgram.{Laws, one_read}
use Rattle.mothra_app.proofs.OneExecution.{one_executed}
use Rattle.mothra_app.proofs.OneReport.{one_reported}

one_printed : Laws → (job : JobFields) → One Same (IsPrinted job)
one_printed laws job = one_then Same (IsProgramOf job.source) IsTextOf (one_read laws job.source)
    (λ program. one_value (first_or (λ f. Syntax f) (print_faults program) (printed program)))

one_outcome : Laws → (request : Request) → IsBounded request → (job : JobFields) → One Same (IsCommandOutcome request job)
one_outcome laws command.Print bounded job = one_printed laws job
one_outcome laws (command.Exec test steps) bounded job = one_executed laws job test steps
one_outcome laws (command.List operators every) bounded job = one_listed laws operators every bounded.0 job
one_outcome laws (command.Run operators every steps workers) bounded job = one_reported laws job operators every steps bounded.0

one_of_read : Laws → (request : Request) → IsBounded request → (read : JobRead) → One Same (IsRequestOutcome mothra_promise request read)
one_of_read laws request bounded (Err fault) = one_value (Err (Job fault))
one_of_read laws request bounded (Ok job) = one_outcome laws request bounded job

same_answers : (request : Request) (read : JobRead) (status other : Status) (text also : List ℕ) → Laws → IsBounded request
    → IsOutcomeAnswer mothra_promise request read status text → IsOutcomeAnswer mothra_promise request read other also → (status ≡ other) × (text ≡ also)
same_answers request read status other text also laws bounded (IsOutcomeAnswer.report is) (IsOutcomeAnswer.report as_well) =
    (refl, one_of_read laws request bounded read _ _ is as_well)
same_answers request read status other text also laws bounded (IsOutcomeAnswer.report is) (IsOutcomeAnswer.fault f as_well) =
    absurd (one_of_read laws request bounded read _ _ is as_well)
same_answers request read status other text also laws bounded (IsOutcomeAnswer.fault f is) (IsOutcomeAnswer.report as_well) =
    absurd (one_of_read laws request bounded read _ _ is as_well)
same_answers request read status other text also laws bounded (IsOutcomeAnswer.fault f is) (IsOutcomeAnswer.fault g as_well) =
    (refl, ap fault_line (one_of_read laws request bounded read _ _ is as_well))

same_request : (a b : Request) (asked : Option Request) → asked ≡ Some a → asked ≡ Some b → a ≡ b
same_request a b asked is also = cc

pub one_answer : (words : List Text) (bytes : List ℕ) (status other : Status) (text also : List ℕ) → Laws
    → IsServed words bytes status text → IsServed words bytes other also → (status ≡ other) × (text ≡ also)
one_answer words bytes status other text also laws one two =
    let same = same_request one.0 two.0 (request_in (meaning_of mothra_line words)) one.1.is two.1.is in
    same_answers two.0 (job_of bytes) status other text also laws two.1.bounded (subst (λ request. IsOutcomeAnswer mothra_promise request (job_of bytes) status text) same one.2) two.2

-- ---- the number of workers

module _ (operators : List Op) (every steps workers more : ℕ) where
  other_outcome : (read : JobRead) (outcome : Outcome) → IsRequestOutcome mothra_promise (command.Run operators every steps workers) read outcome
      → IsRequestOutcome mothra_promise (command.Run operators every steps more) read outcome
  other_outcome (Ok job) outcome is = is
  other_outcome (Err fault) outcome is = is

  other_answer : {read : JobRead} {status : Status} {text : List ℕ} → IsOutcomeAnswer mothra_promise (command.Run operators every steps workers) read status text
      → IsOutcomeAnswer mothra_promise (command.Run operators every steps more) read status text
  other_answer {read = read} (IsOutcomeAnswer.report is) = IsOutcomeAnswer.report (other_outcome read _ is)
  other_answer {read = read} (IsOutcomeAnswer.fault f is) = IsOutcomeAnswer.fault f (other_outcome read _ is)

pub asked_answer : (words : List Text) (bytes : List ℕ) (request : Request) (status : Status) (text : List ℕ) → AsksFor mothra_line words request → IsServed words bytes status text
    → IsOutcomeAnswer mothra_promise request (job_of bytes) status text
asked_answer words bytes request status text asks served =
    subst (λ r. IsOutcomeAnswer mothra_promise r (job_of bytes) status text) (same_request served.0 request (request_in (meaning_of mothra_line words)) served.1.is asks.is) served.2

pub any_workers : (words others : List Text) (operators : List Op) (every steps workers more : ℕ) (bytes : List ℕ) (status other : Status) (text also : List ℕ)
    → Laws → AsksFor mothra_line words (command.Run operators every steps workers) → AsksFor mothra_line others (command.Run operators every steps more)
    → IsServed words bytes status text → IsServed others bytes other also → (status ≡ other) × (text ≡ also)
any_workers words others operators every steps workers more bytes status other text also laws asks asks_too one two =
    let request = command.Run operators every steps more in
    let answered = asked_answer words bytes (command.Run operators every steps workers) status text asks one in
    same_answers request (job_of bytes) status other text also laws asks_too.bounded (other_answer operators every steps workers more answered)
    (asked_answer others bytes request other also asks_too two)
