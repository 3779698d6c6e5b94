use Rattle.f77_legal.proofs.Common.{◌∙◌, ap, sym, Some}
use Rattle.f77_legal.proofs.Breaches.{expression_reported, expressions_kept, no_expression}
use Rattle.f77_legal.proofs.legal.check_expressions.Goals as goal

pub returns-in_default : goal.returns-in_default
returns-in_default c = λ program first. expressions_kept program (sym c.in_default.is ∙ first)

pub returns-then-is_on_expressions : goal.returns-then-is_on_expressions
returns-then-is_on_expressions c = λ program first.
    expression_reported program (c.in-Some.clause, c.in-Some.line) (sym c.in-Some.is ∙ first) (sym c.is_on_expressions.ensures ∙ c.if-is_on_expressions.true)
    ∙ ap Some (sym c.fault.ensures)

pub returns : goal.returns
returns c = λ program first.
    no_expression program (c.in-Some.clause, c.in-Some.line) (sym c.in-Some.is ∙ first) (sym c.is_on_expressions.ensures ∙ c.if-is_on_expressions.false)
