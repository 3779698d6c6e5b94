use Rattle.mothra_bench.proofs.Common.{◌∙◌, ap, Some, Option, slice_set, row_at, Row}
use Rattle.mothra_bench.proofs.RowLists.{row_set}
use Rattle.mothra_bench.proofs.row_map.put_at.Goals as goal

pub returns-clause-rows : goal.returns-clause-rows
returns-clause-rows c = λ k.
    ap (λ (new : Option Row). row_at (slice_set c.args.list.now.items c.args.place new) k) c.replace.ensures.after
    ∙ row_set c.args.list.now.items c.args.place (Some c.args.row) c.requires k
