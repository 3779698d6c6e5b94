use Rattle.equivalents_app.proofs.Common.{Ok, inr, subst, string_bytes, of_mutants, InTurn, IsNamedIn, IsPlanned}
use Rattle.mothra_app.proofs.Stages.{passed_on}
use Rattle.mothra_app.proofs.Memory.{ops_in}
use Rattle.equivalents_app.proofs.finding.report.Goals as goal

pub returns-in_err-plan : goal.returns-in_err-plan
returns-in_err-plan c =
    let i = c.args.inquiry.now in
    passed_on string_bytes (IsPlanned c.args.job.source i.operators i.every) (IsNamedIn c.args.job.suite i) of_mutants of_mutants (λ f memory. memory)
    c.from_residual.result c.in_err-plan.field-0.0 c.from_residual.ensures.1 c.in_err-plan.ensures

pub returns-in-Ok : goal.returns-in-Ok
returns-in-Ok c =
    InTurn.gave {a = c.in_ok-plan.plan} c.in_ok-plan.ensures
    (subst (λ tests. IsNamedIn tests c.args.inquiry.now c.in_ok-plan.plan (Ok (string_bytes c.in-Ok.text))) c.into_lists-tests.ensures.suite c.in-Ok.ensures)

pub returns : goal.returns
returns c = inr ops_in
