use Rattle.f77_syntax.proofs.Common.{refl, ◌∙◌, ap, List, map, reference_at, cut, Trees, tree_of, trees, Expr}
use Rattle.f77_syntax.proofs.Gives.{reference_whole}
use Rattle.f77_syntax.proofs.statement.reference.Goals as goal

pub returns-in_default : goal.returns-in_default
unfolding reference_at
returns-in_default c =
    let (x, read, (named, at)) = c.in_ok-front.ensures.found in
    reference_whole c.args.text.now _ _ (x.0, Trees.None, x.1) (rw (read, ← at, ← c.in_default.ensures) refl) (c.beginning-name.ensures ∙ ap cut named)
    (ap (λ (items : List Expr). trees (map tree_of items)) c.new-subscripts.ensures.items) at

pub returns : goal.returns
unfolding reference_at
returns c =
    let (x, read, (named, at)) = c.in_ok-front.ensures.found in
    let (y, inner, (same, behind)) = c.in_ok-subscripts.ensures in
    let (z, close, end) = c.in_ok-rest.ensures in
    reference_whole c.args.text.now _ _ (x.0, y.0, z) (rw (read, ← at, ← c.in-Some.ensures, inner, ← behind, close) refl) (c.beginning-name.ensures ∙ ap cut named) same end
