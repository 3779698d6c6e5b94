use Rattle.f77_check.proofs.Common.{ap, ◌∙◌, sym, subst, refl, length, get_or, ◌-◌, ◌==◌, Resolved, IsChecked, framed, LineFields, statement_of}
use Rattle.f77_check.proofs.Changes.{line_read, may_stand_by}
use Rattle.f77_check.proofs.checked.Checked.frame_stays.Goals as goal

pub returns-then-is_terminal : goal.returns-then-is_terminal
returns-then-is_terminal c = λ _.
    let same = c.lines.ensures.lines ∙ ap (λ self. self.program) c.self.view_is in
    let read = c.index-lines-i.is ∙ ap (λ lines. get_or lines (c.args.number - 1) c.index-lines-i.result) same in
    let line = line_read c.args.self.now.program (c.args.number - 1) c.index-lines-i.result c.requires.line c.requires.at read in
    record {
      line = c.requires.line;
      at = c.requires.at;
      frame = c.if-keeps_frame.ensures refl ∙ ap (λ line. framed (statement_of line.stmt)) c.deref.ensures ∙ ap (λ (l : LineFields). framed l.stmt) line;
      ends = λ d ends. sym c.if-is_terminal.ensures;
    }

pub returns-else-is_terminal : goal.returns-else-is_terminal
returns-else-is_terminal c = λ empty.
    let same = c.lines.ensures.lines ∙ ap (λ self. self.program) c.self.view_is in
    let read = c.index-lines-i.is ∙ ap (λ lines. get_or lines (c.args.number - 1) c.index-lines-i.result) same in
    let line = line_read c.args.self.now.program (c.args.number - 1) c.index-lines-i.result c.requires.line c.requires.at read in
    record {
      line = c.requires.line;
      at = c.requires.at;
      frame = c.if-keeps_frame.ensures refl ∙ ap (λ line. framed (statement_of line.stmt)) c.deref.ensures ∙ ap (λ (l : LineFields). framed l.stmt) line;
      ends = may_stand_by c.args.self.now (subst IsChecked c.self.view_is c.self.invariant.0) (c.args.number - 1) _ c.requires.line c.requires.at c.index.result.now
          (c.index.ensures ∙ ap (λ list. get_or list (c.args.number - 1) c.index.result.now) (ap (λ self. self.statements) c.self.view_is))
          (ap (λ (r : Resolved). length r.ends.items == 0) (sym c.deref-else-is_terminal.ensures)
          ∙ ap (λ n. n == 0) (sym c.deref-else-is_terminal.result.now.ends.ok.0) ∙ sym c.is_empty.ensures ∙ empty);
    }
