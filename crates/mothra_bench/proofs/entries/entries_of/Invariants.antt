use Rattle.mothra_bench.proofs.Common.{◌≡◌, All, take, map, IsEntry, Entry}
use Rattle.mothra_bench.proofs.CollectEntries.{Left}
use Rattle.mothra_bench.proofs.entries.entries_of.Given as goal

abbrev pub invariant-loop-ticket : goal.invariant-loop-ticket
invariant-loop-ticket l =
    (map (λ (e : Entry). e.ticket) l.entries.items ≡ take l.ticket-index l.tickets)
    × All (IsEntry l.bench l.tally l.fn.rows) l.entries.items
    × Left l.fn.rows l.left l.tickets l.ticket-index
