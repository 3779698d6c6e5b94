use Rattle.f77_syntax.proofs.Common.{◌∙◌, sym, ℕ, of_calls, map-id, clipped, bound_at, bounds_at}
use Rattle.f77_syntax.proofs.JoinedItems.{gives_items, gives_as}
use Rattle.f77_syntax.proofs.declaration.bounds.Goals as goal

abbrev itself : ℕ → ℕ
itself n = n

pub returns : goal.returns
unfolding bounds_at
returns c =
    gives_as (λ x a is. (sym (map-id x.0.items) ∙ is.0, is.1)) c.joined.result (bounds_at c.args.text.now)
    (gives_items itself clipped bound_at _ (λ text r called. search of_calls) (λ text x called. search of_calls) c.joined.result c.args.text.now c.joined.ensures)
