use Rattle.f77_syntax.proofs.Common.{refl, condition_at}
use Rattle.f77_syntax.proofs.statement.condition.Goals as goal

pub returns : goal.returns
unfolding condition_at
returns c =
    let (r, front, at) = c.in_ok-inner.ensures in
    let (x, read, (same, behind)) = c.in_ok-condition.ensures.found in
    let (z, close, end) = c.in_ok-rest.ensures in
    ((x.0, z), rw (front, ← at, read, ← behind, close) refl, (same, end))
