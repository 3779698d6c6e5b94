use Rattle.f77_syntax.proofs.Common.{refl, ◌∙◌, ap, [], decl_at, cut}
use Rattle.f77_syntax.proofs.DeclarationTexts.{decl_is}
use Rattle.f77_syntax.proofs.JoinedTexts.{fronts_short}
use Rattle.f77_syntax.proofs.declaration.declaration.Goals as goal

pub returns-in_default-clause-found : goal.returns-in_default-clause-found
unfolding decl_at
returns-in_default-clause-found c =
    let (x, read, (named, at)) = c.in_ok-front.ensures.found in
    ((record { name = x.0; bounds = [] }, x.1), rw (read, ← at, ← c.in_default.ensures) refl, (rw (c.beginning-name.ensures ∙ ap cut named, c.new-bounds.ensures.items) refl, at))

pub returns-clause-found : goal.returns-clause-found
unfolding decl_at
returns-clause-found c =
    let (x, read, (named, at)) = c.in_ok-front.ensures.found in
    let (y, inner, (same, behind)) = c.in_ok-bounds.ensures in
    let (z, close, end) = c.in_ok-rest.ensures in
    ((record { name = x.0; bounds = y.0 }, z), rw (read, ← at, ← c.in-Some.ensures, inner, ← behind, close) refl, (rw (c.beginning-name.ensures ∙ ap cut named, same) refl, end))

pub returns-clause-shorter : goal.returns-clause-shorter
returns-clause-shorter c = let (x, read, (is, end)) = returns-clause-found c in rw end (fronts_short (decl_is c.args.text.now x read))
