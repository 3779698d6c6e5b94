use Rattle.f77_syntax.proofs.Common.{refl, ◌∙◌, assign_at, assign_view, Statement}
use Rattle.f77_syntax.proofs.statement.assignment.Goals as goal

pub returns : goal.returns
unfolding assign_at
returns c =
    let (x, place, (named, items, at)) = c.in_ok-target.ensures in
    let (y, equals, behind) = c.in_ok-rest.ensures in
    let (v, value, same) = c.in_ok-value.ensures in (
      Statement.Assign x.0 x.1 v,
      rw (place, ← at, equals, ← behind, value) refl,
      assign_view c.in_ok-target.target c.in_ok-value.value ∙ rw (named, items, same) refl,
    )
