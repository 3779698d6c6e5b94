use Rattle.f77_syntax.proofs.Common.{◌∙◌, sym, of_calls, map-id, clip_value, data_value_at, data_values_at, Value}
use Rattle.f77_syntax.proofs.JoinedItems.{gives_items, gives_as}
use Rattle.f77_syntax.proofs.data.values.Goals as goal

abbrev itself : Value → Value
itself v = v

pub returns : goal.returns
unfolding data_values_at
returns c =
    gives_as (λ x a is. (sym (map-id x.0.items) ∙ is.0, is.1)) c.joined.result (data_values_at c.args.text.now)
    (gives_items itself clip_value data_value_at _ (λ text r called. search of_calls) (λ text x called. search of_calls) c.joined.result c.args.text.now c.joined.ensures)
