use Rattle.f77_legal.proofs.Common.{◌≡◌, ◌∙◌, ap, map, sym, Some, rules, slice_get, too_large_faults, faults, BadData, line_of}
use Rattle.f77_legal.proofs.First.{early_found, late_found, late_reported, first_of, empty_from}
use Rattle.f77_legal.proofs.legal.judge.Goals as goal

pub returns-in_err-check_statements-clause-reports : goal.returns-in_err-check_statements-clause-reports
returns-in_err-check_statements-clause-reports c = λ tables.
    let p = map line_of c.args.lines.now in
    let fault = c.in_err-check_statements.field-0.0 in
    let found : slice_get (faults p) 0 ≡ Some fault = early_found p fault (c.in_err-check_statements.ensures tables) in
    search rules

pub returns-in-Some-clause-reports : goal.returns-in-Some-clause-reports
returns-in-Some-clause-reports c = λ tables.
    let p = map line_of c.args.lines.now in
    let line = c.in_ok-line.ensures tables.names in
    let found : slice_get (faults p) 0 ≡ Some (BadData c.in-Some.line) =
    late_found p (BadData c.in-Some.line) (c.in_ok-check_statements.ensures tables) (first_of BadData _ (too_large_faults p) c.in-Some.line (sym line ∙ c.in-Some.is)) in
    search rules

pub returns-clause-reports : goal.returns-clause-reports
returns-clause-reports c = λ tables.
    let p = map line_of c.args.lines.now in
    let line = c.in_ok-line.ensures tables.names in
    late_reported p c.check_size.result (c.in_ok-check_statements.ensures tables) (ap (map BadData) (empty_from _ (sym line ∙ c.in_default.is))) (c.check_size.ensures tables.names)
