use Rattle.f77_legal.proofs.Common.{◌≡◌, ◌∙◌, ap, map, sym, Some, ◌++◌, rules, slice_get, clause_faults, control_clauses, expression_clauses, label_faults}
use Rattle.f77_legal.proofs.Common.{name_faults, statement_faults, DoubleLabel, line_of}
use Rattle.f77_legal.proofs.Breaches.{control_kept, control_reported}
use Rattle.f77_legal.proofs.First.{empty_from, first_of, first_before, first_behind, none_behind_none}
use Rattle.f77_legal.proofs.legal.check_statements.Goals as goal

pub returns-in_err-check_names : goal.returns-in_err-check_names
returns-in_err-check_names c = λ tables.
    let p = map line_of c.args.lines.now in
    let fault = c.in_err-check_names.field-0.0 in
    let found : slice_get (name_faults p ++ statement_faults p) 0 ≡ Some fault = first_before (name_faults p) _ fault (c.in_err-check_names.ensures tables.names) in
    search rules

pub returns-in_err-check_expressions : goal.returns-in_err-check_expressions
returns-in_err-check_expressions c = λ tables.
    let p = map line_of c.args.lines.now in
    let fault = c.in_err-check_expressions.field-0.0 in
    let found : slice_get (name_faults p ++ statement_faults p) 0 ≡ Some fault =
    first_behind (name_faults p) _ fault (c.in_ok-check_names.ensures tables.names)
    (first_before (clause_faults expression_clauses p) _ fault (c.in_err-check_expressions.ensures p (c.first_of_all-first.ensures tables))) in
    search rules

pub returns-in-Some : goal.returns-in-Some
returns-in-Some c = λ tables.
    let p = map line_of c.args.lines.now in
    first_behind (name_faults p) _ _ (c.in_ok-check_names.ensures tables.names)
    (first_behind (clause_faults expression_clauses p) _ _ (c.in_ok-check_expressions.ensures p (c.first_of_all-first.ensures tables))
    (first_of DoubleLabel _ (clause_faults control_clauses p) c.in-Some.label (sym (c.first_double.ensures p tables.labels) ∙ c.in-Some.is)))

pub returns-in-Some-first : goal.returns-in-Some-first
returns-in-Some-first c = λ tables.
    let p = map line_of c.args.lines.now in
    let first = c.first_of_all-first.ensures tables in
    let none = c.in_ok-check_expressions.ensures p first in
    first_behind (name_faults p) _ _ (c.in_ok-check_names.ensures tables.names)
    (first_behind (clause_faults expression_clauses p) _ _ none
    (first_behind (label_faults p) _ _ (ap (map DoubleLabel) (empty_from _ (sym (c.first_double.ensures p tables.labels) ∙ c.in_default.is)))
    (control_reported p (c.in-Some-first.clause, c.in-Some-first.line) (sym c.in-Some-first.is ∙ first) none ∙ ap Some (sym c.fault.ensures))))

pub returns-in-None : goal.returns-in-None
returns-in-None c = λ tables.
    let p = map line_of c.args.lines.now in
    let first = c.first_of_all-first.ensures tables in
    none_behind_none (name_faults p) _ (c.in_ok-check_names.ensures tables.names)
    (none_behind_none (clause_faults expression_clauses p) _ (c.in_ok-check_expressions.ensures p first)
    (none_behind_none (label_faults p) _ (ap (map DoubleLabel) (empty_from _ (sym (c.first_double.ensures p tables.labels) ∙ c.in_default.is)))
    (control_kept p (sym c.in-None.is ∙ first))))
