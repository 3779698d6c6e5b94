use Rattle.f77_syntax.proofs.Common.{refl, control_at}
use Rattle.f77_syntax.proofs.label.control.Goals as goal

pub returns-clause-read : goal.returns-clause-read
unfolding control_at
returns-clause-read c =
    let (x, read, (same, at)) = c.in_ok-label.ensures.found in
    let (y, named, (called, behind)) = c.in_ok-variable.ensures.found in
    let (r, equals, end) = c.in_ok-parameters.ensures in
    ((x.0, y.0, r), rw (read, ← at, ← c.past_comma.ensures.rest, named, ← behind, equals) refl, (same, called, end))
