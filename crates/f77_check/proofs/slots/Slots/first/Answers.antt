use Rattle.f77_check.proofs.Common.{ap, ◌∙◌, sym, length, ◌<◌, is_some, rules, bytes_eq, array_bounds, keys}
use Rattle.indexmap.proofs.MapLemmas.{some_index}
use Rattle.f77_check.proofs.SlotCounts.{start_read, start_within}
use Rattle.f77_check.proofs.slots.Slots.first.Goals as goal

pub unwrap-requires : goal.unwrap-requires
unwrap-requires c = ap is_some c.place.ensures ∙ some_index (bytes_eq c.args.name.now) c.args.names.now.facts.entries ∙ c.requires.kept

pub index-requires : goal.index-requires
index-requires c =
    let names = keys c.args.names.now.facts in
    let first = c.args.self.now.first.items in
    let below : c.unwrap.result < length first =
    start_within (array_bounds c.args.names.now) names first (bytes_eq c.args.name.now) c.unwrap.result c.requires.table.first (sym c.place.ensures ∙ c.unwrap.ensures) in
    search rules

pub returns : goal.returns
returns c =
    start_read (array_bounds c.args.names.now) (keys c.args.names.now.facts) c.args.self.now.first.items (bytes_eq c.args.name.now) c.unwrap.result c.index.result.now
    c.requires.table.first (sym c.place.ensures ∙ c.unwrap.ensures) c.index.ensures
