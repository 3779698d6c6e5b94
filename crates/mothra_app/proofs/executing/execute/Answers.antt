use Rattle.mothra_app.proofs.Common.{◌≡◌, sym, refl, rules, subst, inl, inr, map, string_bytes, Err, Ok, Some, None, Option, Result, ◌⊎◌, Contains, List, ℕ}
use Rattle.mothra_app.proofs.Common.{IfSome, Arg, Outcome, RunFault, refusal, line_of, of_legal_programs, of_runs, InTurn, IsLegalProgramOf, IsRunLine, IsTestLine}
use Rattle.mothra_app.proofs.Common.{IsTestOf, Job, Run, test_at}
use Rattle.f77_meaning.specs.declared.outcome.RunFault.TheVariants as fault
use Rattle.mothra_job.specs.declared.job.JobFault.TheVariants.{NoTest}
use Rattle.mothra_app.proofs.Stages.{comes, of_fault, passed_on}
use Rattle.mothra_app.proofs.Memory.{legal_in_runs, run_in}
use Rattle.mothra_app.proofs.Refusals.{run_refused}
use Rattle.mothra_app.proofs.executing.execute.Goals as goal

tested : (suite : List (List Arg)) (number : ℕ) (arguments : List Arg) → test_at suite number ≡ Some arguments → IsTestOf suite number (Ok arguments)
tested suite number arguments some = rw some refl

untested : (suite : List (List Arg)) (number : ℕ) → test_at suite number ≡ None → IsTestOf suite number (Err (Job (NoTest number)))
untested suite number none = rw none refl

fits : (reported : Option RunFault) (answer : Outcome) → (let ok : Result Outcome RunFault = Ok answer in IfSome reported (λ e. ok ≡ Err e)) → reported ≡ None
fits None answer is = refl
fits (Some e) answer is = absurd (cc)

pub returns-in_err-checked : goal.returns-in_err-checked
returns-in_err-checked c =
    passed_on string_bytes (IsLegalProgramOf c.args.job.now.source) (IsTestLine c.args.job.now c.args.test c.args.steps) of_legal_programs of_runs
    legal_in_runs c.from_residual.result c.in_err-checked.field-0.0 c.from_residual.ensures.1 c.in_err-checked.ensures.program

pub returns-in_default : goal.returns-in_default
returns-in_default c =
    let suite = c.args.job.now.suite in
    let none : test_at suite c.args.test ≡ None = search rules in
    inl (InTurn.gave {a = map line_of c.in_ok-checked.checked.program} c.in_ok-checked.ensures.program (InTurn.failed (untested suite c.args.test none)))

pub returns-in_err-outcome : goal.returns-in_err-outcome
returns-in_err-outcome c =
    let job = c.args.job.now in
    let steps = c.args.steps in
    let program = map line_of c.in_ok-checked.checked.program in
    let arguments = c.in-Some.arguments.now in
    let result = c.from_residual-in_err-outcome.result in
    let refused = c.in_err-outcome.field-0.0 in
    let some : test_at job.suite c.args.test ≡ Some arguments = search rules in
    comes string_bytes (IsLegalProgramOf job.source) (IsTestLine job c.args.test steps) of_runs program result c.in_ok-checked.ensures.program
    (comes string_bytes (IsTestOf job.suite c.args.test) (IsRunLine program steps) of_runs arguments result (tested job.suite c.args.test arguments some)
    (of_fault string_bytes (IsRunLine program steps arguments) of_runs result (Run refused) c.from_residual-in_err-outcome.ensures.1
    (run_refused program steps arguments refused
    (subst (λ list. (refused ≡ fault.Memory) ⊎ (refusal list arguments ≡ Some refused)) c.in_ok-checked.ensures.shapes c.in_err-outcome.ensures.fault))))

pub returns-in_err-outcome_line : goal.returns-in_err-outcome_line
returns-in_err-outcome_line c =
    of_fault string_bytes (InTurn (IsLegalProgramOf c.args.job.now.source) (IsTestLine c.args.job.now c.args.test c.args.steps)) of_runs
    c.from_residual-in_err-outcome_line.result (Run c.in_err-outcome_line.field-0.0) c.from_residual-in_err-outcome_line.ensures.1
    (inr (subst (λ f. Contains of_runs (Run f)) (sym c.in_err-outcome_line.ensures.memory) run_in))

pub returns : goal.returns
returns c =
    let job = c.args.job.now in
    let steps = c.args.steps in
    let program = map line_of c.in_ok-checked.checked.program in
    let arguments = c.in-Some.arguments.now in
    let ok : Result Outcome RunFault = Ok c.in_ok-outcome.outcome in
    let some : test_at job.suite c.args.test ≡ Some arguments = search rules in
    let fitting =
    fits _ c.in_ok-outcome.outcome (subst (λ list. IfSome (refusal list arguments) (λ e. ok ≡ Err e)) c.in_ok-checked.ensures.shapes c.in_ok-outcome.ensures.refused) in
    InTurn.gave {a = program} c.in_ok-checked.ensures.program
    (InTurn.gave {a = arguments} (tested job.suite c.args.test arguments some)
    (subst (λ line. IsRunLine program steps arguments (Ok line)) (sym c.in_ok-outcome_line.ensures.line)
    (IsRunLine.outcome fitting c.in_ok-outcome.ensures.outcome)))
