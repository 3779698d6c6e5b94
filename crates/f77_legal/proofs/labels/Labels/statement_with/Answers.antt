use Rattle.f77_legal.proofs.Common.{◌∙◌, ap, sym, Some, statement_of}
use borrow.Author.Tests.{ltb-true}
use Rattle.f77_legal.proofs.LabelTables.{statement_found}
use Rattle.f77_legal.proofs.labels.Labels.statement_with.Goals as goal

pub returns : goal.returns
returns c = λ is.
    let found = c.in_ok-line.ensures.lookup in
    ap (λ line. Some (statement_of line.stmt)) c.deref.ensures
    ∙ statement_found c.args.lines.now c.args.label _ _ c.in_ok-line.line.now c.in_ok-label.was (sym (c.in_ok-place.ensures _ is)) (ltb-true _ _ (sym found.0)) found.1
