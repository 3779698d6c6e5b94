use Rattle.f77_syntax.proofs.Common.{◌∙◌, sym, ap, subst, inr, err_from_is_err_and, may_stand, IsAdmitted, statement_of}
use Rattle.f77_syntax.proofs.Exact.{behind_end, refused_first, out_first}
use Rattle.f77_syntax.proofs.parsing.in_place.Goals as goal

pub returns-then-is_end : goal.returns-then-is_end
returns-then-is_end c = inr (behind_end c.args.before c.args.card.now c.line.result (c.is_end.ensures.yes c.if-is_end.true) c.line.ensures)

pub returns-in_err-stmt : goal.returns-in_err-stmt
returns-in_err-stmt c =
    let p = err_from_is_err_and c.from_residual.result c.from_residual.ensures.1 in
    rw (p.1, p.2) (refused_first c.args.before c.args.card.now c.line-2.result c.text.result.now c.in_err-stmt.field-0.0
    (c.is_end.ensures.no c.if-is_end.false) c.line-2.ensures c.text.ensures c.in_err-stmt.ensures)

pub returns-then-not-may_stand : goal.returns-then-not-may_stand
returns-then-not-may_stand c =
    inr (out_first c.args.before c.args.card.now c.line-then-not-may_stand.result c.text.result.now (statement_of c.in_ok-stmt.stmt) c.misplaced.result c.group_of.result c.may_stand.result
    (c.is_end.ensures.no c.if-is_end.false) c.line-then-not-may_stand.ensures c.text.ensures c.in_ok-stmt.ensures c.group_of.ensures c.may_stand.ensures c.if-not-may_stand.true c.misplaced.ensures)

pub returns : goal.returns
returns c = (
  subst (λ z. IsAdmitted z (statement_of c.in_ok-stmt.stmt)) c.text.ensures c.in_ok-stmt.ensures,
  ap (λ z. may_stand c.args.before z) (sym c.group_of.ensures) ∙ sym c.may_stand.ensures ∙ c.if-not-may_stand.false,
)
