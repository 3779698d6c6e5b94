use Rattle.mothra_app.proofs.Common.{inr, string_bytes, of_reports, InTurn, IsBenched, IsReportOf, Bench}
use Rattle.mothra_app.proofs.Stages.{of_fault, passed_on}
use Rattle.mothra_app.proofs.Refusals.{report_refused}
use Rattle.mothra_app.proofs.reporting.report_of.Goals as goal

pub returns-in_err-bench : goal.returns-in_err-bench
returns-in_err-bench g c =
    passed_on string_bytes (IsBenched c.args.job c.args.operators.now c.args.every c.args.steps) IsReportOf of_reports of_reports (λ f memory. memory)
    c.from_residual.result c.in_err-bench.field-0.0 c.from_residual.ensures.1 c.in_err-bench.ensures

pub returns-in_err-analyse : goal.returns-in_err-analyse
returns-in_err-analyse g c =
    of_fault string_bytes (InTurn (IsBenched c.args.job c.args.operators.now c.args.every c.args.steps) IsReportOf) of_reports
    c.from_residual-in_err-analyse.result (Bench c.in_err-analyse.field-0.0) c.from_residual-in_err-analyse.ensures.1
    (inr (report_refused c.in_err-analyse.field-0.0 c.in_err-analyse.ensures.refused))

pub returns : goal.returns
returns g c = InTurn.gave {a = c.in_ok-bench.bench} c.in_ok-bench.ensures (IsReportOf.report c.in_ok-analyse.ensures.report)
