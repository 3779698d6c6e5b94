use Rattle.f77_syntax.proofs.Common.{refl, ◌∙◌, sym, ap, ◌≡◌, true, codes, not, bytes_eq, else_at, not_false, else_if_view, else_view, Statement}
use Rattle.f77_syntax.proofs.statement.otherwise.Goals as goal

pub returns-then-is_empty : goal.returns-then-is_empty
unfolding else_at
returns-then-is_empty c = (Statement.Else, rw (sym c.is_empty.ensures ∙ c.if-is_empty.true) refl, else_view)

pub returns : goal.returns
unfolding else_at
returns c =
    let (x, found, (same, end)) = c.in_ok-condition.ensures in
    let e : bytes_eq c.in_ok-condition.rest.now (codes "THEN") ≡ true = not_false (bytes_eq c.in_ok-condition.rest.now (codes "THEN"))
    (ap (λ z. not (bytes_eq c.in_ok-condition.rest.now z)) (sym c.as_slice.ensures) ∙ sym c.ne.ensures ∙ c.if-ne.false) in
    (Statement.ElseIf x.0, rw (sym c.is_empty.ensures ∙ c.if-is_empty.false, found, ← end, e) refl, else_if_view c.in_ok-condition.condition ∙ rw same refl)
