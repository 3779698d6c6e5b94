use Rattle.f77_syntax.proofs.Common.{◌∙◌, sym, List, ℕ, of_calls, map-id, name_at, names_at, cut}
use Rattle.f77_syntax.proofs.JoinedItems.{gives_items, gives_as}
use Rattle.f77_syntax.proofs.joined.names.Goals as goal

abbrev itself : List ℕ → List ℕ
itself name = name

pub returns : goal.returns
unfolding names_at
returns c =
    gives_as (λ x a is. (sym (map-id x.0.items) ∙ is.0, is.1)) c.joined.result (names_at c.args.text.now)
    (gives_items itself cut name_at _ (λ text r called. search of_calls) (λ text x called. search of_calls) c.joined.result c.args.text.now c.joined.ensures)
