use Rattle.f77_syntax.proofs.Common.{refl, ◌∙◌, computed_at, computed_view, Statement}
use Rattle.f77_syntax.proofs.label.computed.Goals as goal

pub returns : goal.returns
unfolding computed_at
returns c =
    let (x, read, (same, at)) = c.in_ok-labels.ensures in
    let (r, close, end) = c.in_ok-rest.ensures in
    let (v, value, is) = c.in_ok-value.ensures in (
      Statement.ComputedGoto x.0 v,
      rw (read, ← at, close, ← end, ← c.past_comma.ensures.rest, value) refl,
      computed_view c.in_ok-labels.labels c.in_ok-value.value ∙ rw (same, is) refl,
    )
