use Rattle.mothra_bench.proofs.Common.{◌≡◌, ◌∙◌, ap, List, length, subst, sym, ◌++◌, [], All, take, ◌∷◌, ◌<◌, get_or, rules, map, map-append, All-push, IsEntry}
use Rattle.mothra_bench.proofs.Common.{Entry, ticket, Aar, Ticket}
use Rattle.mothra_bench.proofs.CollectLists.{any_default, taken_more}
use Rattle.mothra_bench.proofs.CollectEntries.{absent_here, entry_of_first, left_here, left_more}
use Rattle.mothra_bench.proofs.entries.entries_of.Goals as goal

pub returns-in_default-clause-refused : goal.returns-in_default-clause-refused
returns-in_default-clause-refused c =
    let tickets = c.args.tickets.now in
    let i = c.loop-ticket.ticket-index in
    let t = get_or tickets i (ticket Aar 0) in
    let lt : i < length tickets = search rules in
    absent_here c.args.bench.now c.args.tally.now c.args.rows c.loop-ticket.left tickets i t c.loop-ticket.entries.items lt (any_default tickets i (ticket Aar 0) t lt)
    c.loop-ticket.invariant.0 c.loop-ticket.invariant.1 c.loop-ticket.invariant.2 (search rules)

pub loop-ticket-preserved : goal.loop-ticket-preserved
loop-ticket-preserved c =
    let tickets = c.args.tickets.now in
    let i = c.loop-ticket.ticket-index in
    let t = get_or tickets i (ticket Aar 0) in
    let lt : i < length tickets = search rules in
    let at = any_default tickets i (ticket Aar 0) t lt in
    let entry : Entry = c.in-Some.entry in
    let pushed : c.push.new.self.items ≡ c.loop-ticket.entries.items ++ entry ∷ [] = search rules in
    let own : entry.ticket ≡ t = search rules in
    let is : IsEntry c.args.bench.now c.args.tally.now c.loop-ticket.left entry = search rules in
    let first = entry_of_first c.args.bench.now c.args.tally.now c.args.rows c.loop-ticket.left entry t own
    (left_here c.args.rows c.loop-ticket.left tickets i t lt at c.loop-ticket.invariant.2) is in (
      ap (map (λ (e : Entry). e.ticket)) pushed
          ∙ (map-append (λ (e : Entry). e.ticket) c.loop-ticket.entries.items (entry ∷ [])
          ∙ (ap (λ (l : List Ticket). l ++ entry.ticket ∷ []) c.loop-ticket.invariant.0
          ∙ (ap (λ (u : Ticket). take i tickets ++ u ∷ []) own ∙ sym (taken_more tickets i t lt at)))),
      subst (All (IsEntry c.args.bench.now c.args.tally.now c.args.rows)) (sym pushed)
          (All-push (IsEntry c.args.bench.now c.args.tally.now c.args.rows) c.loop-ticket.entries.items entry c.loop-ticket.invariant.1 first),
      left_more c.args.rows c.loop-ticket.left c.entry_of.new.map tickets i t c.requires lt at c.entry_of.ensures.rows c.loop-ticket.invariant.2,
    )
