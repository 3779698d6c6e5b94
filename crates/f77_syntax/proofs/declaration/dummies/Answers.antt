use Rattle.f77_syntax.proofs.Common.{refl, [], dummies_at}
use Rattle.f77_syntax.proofs.declaration.dummies.Goals as goal

pub returns-in-Some : goal.returns-in-Some
unfolding dummies_at
returns-in-Some c = (([], c.in-Some.rest.now), rw (← c.in-Some.ensures) refl, (c.new.ensures.items, refl))

pub returns : goal.returns
unfolding dummies_at
returns c =
    let (x, read, (are, at)) = c.in_ok-names.ensures in
    let (r, close, end) = c.in_ok-rest.ensures in
    ((x.0, r), rw (← c.in_default.ensures, read, ← at, close) refl, (are, end))
