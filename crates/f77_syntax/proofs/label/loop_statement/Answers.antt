use Rattle.f77_syntax.proofs.Common.{refl, ◌∙◌, ap, loop_at, loop_view, cut, Statement}
use Rattle.f77_syntax.proofs.label.loop_statement.Goals as goal

pub returns : goal.returns
unfolding loop_at
returns c =
    let (r, word, at) = c.in_ok-behind.ensures in
    let (x, control, (labelled, named, end)) = c.in_ok-label.ensures.read in
    let (a, one, (first, behind)) = c.in_ok-first.ensures.found in
    let (q, comma, next) = c.in_ok-second.ensures in
    let (b, two, (last, rest)) = c.in_ok-last.ensures.found in
    let (d, three, step) = c.in_ok-step.ensures in (
      Statement.Loop x.0 x.1 a.0 b.0 d,
      rw (word, ← at, control, ← end, one, ← behind, comma, ← next, two, ← rest, three) refl,
      loop_view c.in_ok-label.label c.beginning.result c.in_ok-first.first c.in_ok-last.last c.in_ok-step.step ∙ rw (labelled, c.beginning.ensures ∙ ap cut named, first, last, step) refl,
    )
