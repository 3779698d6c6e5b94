use Rattle.f77_syntax.proofs.Common.{◌∙◌, sym, ℕ, of_calls, map-id, items_at, label_at}
use Rattle.f77_syntax.proofs.JoinedItems.{gives_items, gives_as}
use Rattle.f77_syntax.proofs.label.labels.Goals as goal

abbrev itself : ℕ → ℕ
itself label = label

pub returns : goal.returns
returns c =
    gives_as (λ x a is. (sym (map-id x.0.items) ∙ is.0 ∙ map-id a.0, is.1)) c.joined.result (items_at label_at c.args.text.now)
    (gives_items itself itself label_at _ (λ text r called. search of_calls) (λ text x called. search of_calls) c.joined.result c.args.text.now c.joined.ensures)
