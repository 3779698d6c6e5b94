use Rattle.mothra_bench.proofs.Common.{◌≡◌, subst, refl, IsReport, IsWhole, report_text}
use Rattle.std.proofs.Common.{string_bytes}
use Rattle.std.proofs.lemmas.Result.{IfOk-weaker, err_from_is_err_and}
use Rattle.mothra_exchange.specs.Table.{view_of}
use Rattle.mothra_bench.proofs.CompleteRows.{matrix_report}
use Rattle.mothra_bench.proofs.ReportEntries.{are_entries}
use Rattle.mothra_bench.proofs.analysis.analyse.Goals as goal

pub returns-in_err-matrix-clause-refused : goal.returns-in_err-matrix-clause-refused
returns-in_err-matrix-clause-refused g c =
    let bench = c.args.bench.now in
    let whole = subst (λ plan. IsWhole plan (view_of c.in_ok-exchange.pass)) c.plan.ensures.plan c.in_ok-exchange.ensures.whole in
    let complete = c.in_ok-rows.ensures.complete refl refl whole in
    let p = err_from_is_err_and c.from_residual-in_err-matrix.result c.from_residual-in_err-matrix.ensures.1 in
    rw (p.1, p.2) (matrix_report bench _ _ c.in_err-matrix.field-0.0 complete c.in_ok-rows.ensures.verdicts c.in_err-matrix.ensures.refused)

pub returns-clause-report : goal.returns-clause-report
returns-clause-report g c =
    let bench = c.args.bench.now in
    let entries = c.in_ok-matrix.matrix in
    IfOk-weaker c.render.result (λ text. string_bytes text ≡ report_text bench entries) (λ text. IsReport bench (string_bytes text))
    (λ text is. record {
      entries = entries;
      are = are_entries bench _ c.in_ok-rows.rows.items entries c.in_ok-matrix.ensures.matrix c.in_ok-rows.ensures.verdicts;
      is = is;
    }) c.render.ensures.text
