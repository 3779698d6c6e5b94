use Rattle.f77_syntax.proofs.Common.{◌∙◌, sym, ap, [], ◌∷◌, subst, ◌++◌, ◌+◌, drop, Err, drop_more, err_from_is_err_and, statement_of}
use Rattle.std.proofs.Math.ListN.{drop_of_length-le}
use Rattle.f77_syntax.proofs.Cards.{Exactly, more_lines, more_faults, are_program, end_lines, refused_so, ended_so, exactly_lines, exactly_refused}
use Rattle.f77_syntax.proofs.Cards.{exactly_accepts, exactly_first, pushed}
use Rattle.f77_syntax.proofs.parsing.parse.Goals as goal

in_err : (c : goal.After-drop-lines) → Exactly c.args.cards.now c.from_residual.result
in_err c =
    let p = err_from_is_err_and c.from_residual.result c.from_residual.ensures.1 in
    let answered = refused_so c.args.cards.now _ _ c.card-item.result c.loop-card.last c.in_err-stmt.field-0.0
    (drop_more c.args.cards.now c.loop-card.card-index c.card-item.result c.loop-card-test.true
    ∙ ap (λ z. z ∷ drop (c.loop-card.card-index + 1) c.args.cards.now) (sym c.card-item.is)) c.in_err-stmt.ensures c.loop-card.invariant.fault in
    subst (λ r. Exactly c.args.cards.now r) (sym (p.1 ∙ ap Err p.2)) answered

pub returns-in_err-stmt-clause-accepts : goal.returns-in_err-stmt-clause-accepts
returns-in_err-stmt-clause-accepts c = exactly_accepts c.args.cards.now c.from_residual.result (in_err c)

pub returns-in_err-stmt-clause-refused : goal.returns-in_err-stmt-clause-refused
returns-in_err-stmt-clause-refused c = exactly_refused c.args.cards.now c.from_residual.result (in_err c)

pub returns-in_err-stmt-clause-first_fault : goal.returns-in_err-stmt-clause-first_fault
returns-in_err-stmt-clause-first_fault c = exactly_first c.args.cards.now c.from_residual.result (in_err c)

pub loop-card-preserved : goal.loop-card-preserved
loop-card-preserved c = record {
  lines = more_lines c.args.cards.now _ _ c.card-item.result c.loop-card.last c.group_of.result _ _ (statement_of c.in_ok-stmt.stmt)
      (drop_more c.args.cards.now c.loop-card.card-index c.card-item.result c.loop-card-test.true
      ∙ ap (λ z. z ∷ drop (c.loop-card.card-index + 1) c.args.cards.now) (sym c.card-item.is))
      c.in_ok-stmt.ensures.0 c.in_ok-stmt.ensures.1 c.group_of.ensures
      (pushed c.loop-card.lines.items c.push.new.self.items (record { label = c.label.result; stmt = c.in_ok-stmt.stmt; line = c.line.result })
      c.card-item.result (c.in_ok-push.ensures.items ∙ ap (λ line. c.loop-card.lines.items ++ line ∷ []) c.in_ok-new.ensures) c.label.ensures
      c.line.ensures) c.loop-card.invariant.lines;
  fault = more_faults c.args.cards.now _ _ c.card-item.result c.loop-card.last c.group_of.result (statement_of c.in_ok-stmt.stmt)
      (drop_more c.args.cards.now c.loop-card.card-index c.card-item.result c.loop-card-test.true
      ∙ ap (λ z. z ∷ drop (c.loop-card.card-index + 1) c.args.cards.now) (sym c.card-item.is))
      c.in_ok-stmt.ensures.0 c.in_ok-stmt.ensures.1 c.group_of.ensures c.loop-card.invariant.fault;
}

pub finished-requires : goal.finished-requires
finished-requires c = λ end. are_program (end_lines c.args.cards.now _ c.loop-card.last _ (drop_of_length-le c.args.cards.now c.loop-card-test.false) end c.loop-card.invariant.lines)

ended : (c : goal.After-finished) → Exactly c.args.cards.now c.finished.result
ended c = ended_so c.args.cards.now _ c.loop-card.last c.loop-card.lines.items c.finished.result
    (drop_of_length-le c.args.cards.now c.loop-card-test.false) c.finished.ensures c.loop-card.invariant.lines c.loop-card.invariant.fault

pub returns-clause-lines : goal.returns-clause-lines
returns-clause-lines c = exactly_lines c.args.cards.now c.finished.result (ended c)

pub returns-clause-accepts : goal.returns-clause-accepts
returns-clause-accepts c = exactly_accepts c.args.cards.now c.finished.result (ended c)

pub returns-clause-refused : goal.returns-clause-refused
returns-clause-refused c = exactly_refused c.args.cards.now c.finished.result (ended c)

pub returns-clause-first_fault : goal.returns-clause-first_fault
returns-clause-first_fault c = exactly_first c.args.cards.now c.finished.result (ended c)
