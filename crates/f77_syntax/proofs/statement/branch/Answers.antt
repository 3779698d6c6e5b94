use Rattle.f77_syntax.proofs.Common.{refl, ◌∙◌, sym, ap, ◌≡◌, true, false, codes, bytes_eq, begins_digit, branch_at, block_view, logical_view, Statement}
use Rattle.f77_syntax.proofs.statement.branch.Goals as goal

pub returns-then-eq : goal.returns-then-eq
unfolding branch_at
returns-then-eq c = λ t same.
    let e : bytes_eq c.args.text.now (codes "THEN") ≡ true = ap (λ z. bytes_eq c.args.text.now z) (sym c.as_slice.ensures) ∙ sym c.eq.ensures ∙ c.if-eq.true in
    (Statement.BlockIf t, rw e refl, block_view c.args.condition ∙ rw same refl)

pub returns : goal.returns
unfolding branch_at
returns c = λ t same.
    let e : bytes_eq c.args.text.now (codes "THEN") ≡ false = ap (λ z. bytes_eq c.args.text.now z) (sym c.as_slice.ensures) ∙ sym c.eq.ensures ∙ c.if-eq.false in
    let f : begins_digit c.args.text.now ≡ false = sym c.begins_digit.ensures ∙ c.if-begins_digit.false in
    let (v, found, is) = c.in_ok-action.ensures in
    (Statement.LogicalIf t v, rw (e, f, found) refl, logical_view c.args.condition c.in_ok-statement.statement ∙ rw (same, c.in_ok-statement.ensures.ok, is) refl)
