use Rattle.f77_check.proofs.Common.{◌≡◌, ap, ◌∙◌, sym, map, [], arith, ◌∷◌, ◌++◌, take, common_steps, labels, line_of, Line}
use Rattle.f77_check.proofs.StatementLabels.{unlabelled, one_label}
use Rattle.f77_check.proofs.checked.Checked.labels.Goals.{in-Some+in_ok-push, in_default}
use Rattle.f77_check.proofs.checked.Checked.labels.Goals as goal

pub loop-line-preserved : goal.loop-line-preserved
loop-line-preserved c =
    let lines = c.lines-line-items.result.now in
    let read = ap (λ (line : Line). line.label) (sym c.deref.ensures) in
    elim c.match-deref.branch [
      | in-Some+in_ok-push w ↦
          ap (λ list. list.items) w.list-is
          ∙ (w.in_ok-push.ensures.items
          ∙ (ap (λ items. items ++ w.in-Some.label ∷ []) c.loop-line.invariant
          ∙ sym (one_label lines c.loop-line.line-index c.line-item.result c.loop-line-test.true c.line-item.is w.in-Some.label (read ∙ w.in-Some.is))))
      | in_default w ↦
          ap (λ list. list.items) w.list-is
          ∙ (c.loop-line.invariant
          ∙ sym (unlabelled lines c.loop-line.line-index c.line-item.result c.loop-line-test.true c.line-item.is (read ∙ w.in_default.is)))
    ]

pub returns : goal.returns
returns c = record {
  labels =
      let whole : take c.loop-line.line-index c.lines-line-items.result.now ≡ c.lines-line-items.result.now = grind (arith, common_steps) in
      c.loop-line.invariant ∙ ap (λ lines. labels (map line_of lines)) (whole ∙ c.lines-line-items.ensures.lines ∙ ap (λ self. self.program) c.self.view_is);
}
