use Rattle.mothra_replacements.proofs.Ascending.{sorted_once}
use Rattle.mothra_replacements.proofs.pools.sort.Goals as goal

pub returns : goal.returns
returns c =
    let sorted = c.sort_unstable.ensures in
    sorted_once c.args.labels.now.items c.sort_unstable.new.self.items c.dedup.new.self.items sorted.permutation sorted.sorted c.dedup.ensures.filtered
