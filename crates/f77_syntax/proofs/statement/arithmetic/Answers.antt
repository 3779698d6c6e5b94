use Rattle.f77_syntax.proofs.Common.{refl, ◌∙◌, arithmetic_at, arithmetic_view, Statement}
use Rattle.f77_syntax.proofs.statement.arithmetic.Goals as goal

pub returns : goal.returns
unfolding arithmetic_at
returns c = λ t same.
    let (l, first, (one, at)) = c.in_ok-negative.ensures in
    let (m, second, (two, behind)) = c.in_ok-zero.ensures in
    let (n, third, three) = c.in_ok-positive.ensures in (
      Statement.ArithIf t l.0 m.0 n,
      rw (first, ← at, second, ← behind, third) refl,
      arithmetic_view c.args.value c.in_ok-negative.negative c.in_ok-zero.zero c.in_ok-positive.positive ∙ rw (same, one, two, three) refl,
    )
