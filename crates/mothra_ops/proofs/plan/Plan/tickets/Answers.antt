use Rattle.mothra_ops.proofs.Common.{◌≡◌, ◌∙◌, ap, List, length, sym, subst, ◌++◌, arith, ◌+◌, ◌≤◌, rules, [], AllPairs, take, edits_of, Aar}
use Rattle.std.proofs.Common.{length-append, flat_map}
use Rattle.std.proofs.lemmas.List.{take_more, flat_map_more}
use Rattle.mothra_codes.specs.Op.{all_ops}
use Rattle.mothra_codes.specs.code.Op.{op_at}
use Rattle.mothra_codes.specs.Ticket.{Before}
use Rattle.mothra_codes.specs.declared.ticket.Ticket.{Ticket}
use Rattle.mothra_ops.specs.{tickets, tickets_of}
use Rattle.mothra_ops.proofs.TicketLists.{few_edits, length-tickets, tickets_ordered}
use Rattle.mothra_ops.proofs.plan.Plan.tickets.Goals as goal

pub loop-op-preserved : goal.loop-op-preserved
loop-op-preserved c =
    let plan = c.args.self.now in
    let i = c.loop-op.op-index in
    let op = op_at i in
    let n = length (edits_of plan op) in
    let pushed : c.push_tickets.new.tickets.items ≡ c.loop-op.tickets.items ++ tickets op n = search rules in
    let few : n ≤ 1048575 = few_edits plan c.count.ensures.plan op in
    let long = ap length pushed ∙ length-append c.loop-op.tickets.items (tickets op n) in
    let own = length-tickets op n in
    let was = c.loop-op.invariant.1 in (
      pushed ∙ (ap (λ (l : List Ticket). l ++ tickets op n) c.loop-op.invariant.0
          ∙ (flat_map_more (λ o. tickets o (length (edits_of plan o))) [] (take i all_ops) op
          ∙ ap (flat_map (λ o. tickets o (length (edits_of plan o)))) (sym (take_more all_ops i Aar (search rules))))),
      omega arith,
    )

pub returns-clause-ordered : goal.returns-clause-ordered
returns-clause-ordered c =
    let is : c.loop-op.tickets.items ≡ tickets_of c.args.self.now = search rules in
    subst (AllPairs Before) (sym is) (tickets_ordered c.args.self.now)
