use Rattle.f77_syntax.proofs.Common.{refl, label_comma}
use Rattle.f77_syntax.proofs.label.label_comma.Goals as goal

pub returns : goal.returns
unfolding label_comma
returns c =
    let (x, read, (same, at)) = c.in_ok-label.ensures.found in
    let (r, comma, end) = c.in_ok-rest.ensures in
    ((x.0, r), rw (read, ← at, comma) refl, (same, end))
