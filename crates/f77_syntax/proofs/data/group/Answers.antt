use Rattle.f77_syntax.proofs.Common.{refl, group_at}
use Rattle.f77_syntax.proofs.DataGives.{group_shorter}
use Rattle.f77_syntax.proofs.data.group.Goals as goal

pub returns-clause-found : goal.returns-clause-found
unfolding group_at
returns-clause-found c =
    let (x, named, (names, at)) = c.in_ok-names.ensures in
    let (r, slash, behind) = c.in_ok-inner.ensures in
    let (v, valued, (values, end)) = c.in_ok-values.ensures in
    let (z, close, last) = c.in_ok-rest.ensures in
    ((record { names = x.0; values = v.0 }, z), rw (named, ← at, slash, ← behind, valued, ← end, close) refl, (rw (names, values) refl, last))

pub returns-clause-shorter : goal.returns-clause-shorter
returns-clause-shorter c = let (x, read, (is, end)) = returns-clause-found c in group_shorter c.args.text.now c.in_ok-rest.rest.now x read end
