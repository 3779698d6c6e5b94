use Rattle.mothra_ops.proofs.Common.{◌≡◌, ◌∙◌, ap, List, sym, ◌++◌, [], ◌∷◌, ◌+◌, rules}
use Rattle.std.proofs.Common.{append_assoc}
use Rattle.mothra_codes.specs.Ticket.{ticket}
use Rattle.mothra_codes.specs.declared.ticket.Ticket.{Ticket}
use Rattle.mothra_ops.specs.{tickets}
use Rattle.mothra_ops.proofs.TicketLists.{tickets_more}
use Rattle.mothra_ops.proofs.tickets.push_tickets.Goals as goal

pub loop-before-preserved : goal.loop-before-preserved
loop-before-preserved c =
    let op = c.args.op in
    let k = c.loop-before.before in
    let pushed : c.push.new.self.items ≡ c.loop-before.tickets.items ++ ticket op (k + 1) ∷ [] = search rules in
    pushed
    ∙ (ap (λ (l : List Ticket). l ++ ticket op (k + 1) ∷ []) c.loop-before.invariant
    ∙ (append_assoc c.args.tickets.now.items (tickets op k) (ticket op (k + 1) ∷ [])
    ∙ ap (λ (l : List Ticket). c.args.tickets.now.items ++ l) (sym (tickets_more op k))))
