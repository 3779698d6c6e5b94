use Rattle.f77_syntax.proofs.Common.{refl, ◌∙◌, sym, ap, [], value_ended, IsStatement, subroutine_at, subroutine_view, cut, Statement}
use Rattle.f77_syntax.proofs.Gives.{gives_along, gives_ended}
use Rattle.f77_syntax.proofs.declaration.subroutine.Goals as goal

pub returns-then-is_empty : goal.returns-then-is_empty
unfolding subroutine_at
returns-then-is_empty c =
    let (x, read, (named, at)) = c.in_ok-front.ensures.found in (
      Statement.Subroutine x.0 [],
      rw (read, ← at, sym c.is_empty.ensures ∙ c.if-is_empty.true) refl,
      subroutine_view c.beginning-name.result c.new-arguments.result ∙ rw (c.beginning-name.ensures ∙ ap cut named, c.new-arguments.ensures.items) refl,
    )

pub returns : goal.returns
unfolding subroutine_at
returns c =
    let (x, read, (named, at)) = c.in_ok-front.ensures.found in
    let (r, open_at, behind) = c.in_ok-inner.ensures in
    let (y, found, (are, end)) = c.in_ok-arguments.ensures in
    gives_along IsStatement c.ended.result (value_ended (Statement.Subroutine x.0 y.0) y.1) (subroutine_at c.args.text.now)
    (rw (read, ← at, sym c.is_empty.ensures ∙ c.if-is_empty.false, open_at, ← behind, found) refl)
    (gives_ended IsStatement _ c.in_ok-arguments.end.now (Statement.Subroutine x.0 y.0) y.1 c.ended.result c.ended.ensures
    (subroutine_view c.beginning-name.result c.in_ok-arguments.arguments ∙ rw (c.beginning-name.ensures ∙ ap cut named, are) refl) end)
