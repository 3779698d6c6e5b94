use Rattle.f77_syntax.proofs.Common.{refl, ◌∙◌, ap, goto_at, goto_view, Statement}
use Rattle.f77_syntax.proofs.label.goto.Goals as goal

pub returns : goal.returns
unfolding goto_at
returns c =
    let (l, read, is) = c.in_ok-label.ensures in
    (Statement.Goto l, rw (← c.in_default.ensures, read) refl, goto_view c.in_ok-label.label ∙ ap Statement.Goto is)
