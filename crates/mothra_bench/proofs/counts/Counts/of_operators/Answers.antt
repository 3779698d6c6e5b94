use Rattle.mothra_bench.proofs.Common.{◌≡◌, length, subst, sym, arith, ℕ, take, ◌+◌, Some, rules, slice_get, slice_set, length-set, counts, entries_of, index}
use Rattle.mothra_bench.proofs.Common.{Op}
use Rattle.mothra_bench.proofs.CountedOperators.{counted, counted_more, room_for}
use Rattle.mothra_bench.proofs.counts.Counts.of_operators.Goals.{After-index_mut}
use Rattle.mothra_bench.proofs.counts.Counts.of_operators.Goals as goal

-- what is counted so far for the operator of the entry
so_far : (c : After-index_mut) → c.index_mut.result.now ≡ counts (entries_of c.entry-item.result.ticket.op (take c.loop-entry.entry-index c.args.entries.now))
so_far c =
    let own = c.entry-item.result.ticket.op in
    let list = c.loop-entry.list.items in
    let long : length list ≡ 22 = c.loop-entry.invariant.0 in
    counted list c.index.result c.index_mut.result.now (entries_of own (take c.loop-entry.entry-index c.args.entries.now)) own c.index.ensures.value
    (let low = c.index.ensures.below in omega (arith, long)) c.index_mut.ensures.value (c.loop-entry.invariant.1 own)

pub add-requires : goal.add-requires
add-requires c =
    room_for c.args.entries.now c.loop-entry.entry-index c.entry-item.result.ticket.op c.index_mut.result.now c.requires (omega arith)
    (so_far (goal.at.add-requires c).After-index_mut)

pub loop-entry-preserved : goal.loop-entry-preserved
loop-entry-preserved c =
    let entries = c.args.entries.now in
    let i = c.loop-entry.entry-index in
    let entry = c.entry-item.result in
    let list = c.loop-entry.list.items in
    let long : length list ≡ 22 = c.loop-entry.invariant.0 in (
      (search (rules, length-set, long)),
      subst (λ (k : ℕ). (op : Op) → slice_get (slice_set list k c.add.new.self) (index op) ≡ Some (counts (entries_of op (take (i + 1) entries)))) (sym c.index.ensures.value)
          (counted_more list entries i entry c.add.new.self (omega arith) c.entry-item.is long c.loop-entry.invariant.1
          (c.add.ensures.counts (entries_of entry.ticket.op (take i entries)) (so_far (goal.at.loop-entry-preserved c).After-index_mut))),
    )
