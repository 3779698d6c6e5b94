use Rattle.mothra_bench.proofs.Common.{◌∙◌, ap, length, refl, arith, None, eqb, cond, ◌&&◌, slice_get_read, ticket_row, index}
use Rattle.mothra_bench.proofs.RowLists.{listed_set}
use Rattle.mothra_bench.proofs.row_map.RowMap.take.Goals as goal

pub returns-clause-rows : goal.returns-clause-rows
returns-clause-rows c =
    let lists = c.args.self.now.rows.items in
    let op = c.index-op.result in
    let number = c.args.ticket.number in
    let old = c.index_mut.result.now in
    λ other.
    listed_set lists op old c.take_at.new.list number None
    (slice_get_read lists (length lists) op old refl (omega (arith, c.if-op-len.false, c.len.ensures)) c.index_mut.ensures.value) c.take_at.ensures.rows (index other.op) other.number
    ∙ ap (λ i. cond (eqb i (index other.op) && eqb number other.number) None (ticket_row c.args.self.now other)) c.index-op.ensures.value
