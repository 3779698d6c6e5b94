use Rattle.mothra_bench.proofs.Common.{◌∙◌, ap, length, refl, arith, Some, eqb, cond, ◌&&◌, slice_get_read, ticket_row, index}
use Rattle.mothra_bench.proofs.RowLists.{listed_set}
use Rattle.mothra_bench.proofs.row_map.RowMap.put.Goals as goal

pub returns-clause-rows : goal.returns-clause-rows
returns-clause-rows c =
    let lists = c.args.self.now.rows.items in
    let op = c.index.result in
    let old = c.index_mut-list.result.now in
    let number = c.args.row.ticket.number in
    let row = Some c.args.row in
    λ ticket.
    listed_set lists op old c.put_at.new.list number row
    (slice_get_read lists (length lists) op old refl (omega (arith, c.requires, c.index.ensures.below)) c.index_mut-list.ensures.value)
    (λ k. c.put_at.ensures.rows k ∙ ap (cond (eqb number k) row) (c.in_ok-make_room.ensures.rows k)) (index ticket.op) ticket.number
    ∙ ap (λ i. cond (eqb i (index ticket.op) && eqb number ticket.number) row (ticket_row c.args.self.now ticket)) c.index.ensures.value
