use Rattle.f77_syntax.proofs.Common.{refl, ◌∙◌, sym, ap, Some, None, step_at}
use Rattle.f77_syntax.proofs.label.step.Goals as goal

pub returns-then-is_empty : goal.returns-then-is_empty
unfolding step_at
returns-then-is_empty c = (None, rw (sym c.is_empty.ensures ∙ c.if-is_empty.true) refl, refl)

pub returns : goal.returns
unfolding step_at
returns c =
    let (r, comma, at) = c.in_ok-rest.ensures in
    let (t, read, same) = c.in_ok-step.ensures in
    (Some t, rw (sym c.is_empty.ensures ∙ c.if-is_empty.false, comma, ← at, read) refl, ap Some same)
