use Rattle.mothra_verdicts.proofs.Common.{◌≡◌, subst, List, ◌∙◌, ap, Ticket, original_number, BenchFields, AreNamed}
use Rattle.mothra_codes.specs.Ticket.{ticket}
use Rattle.mothra_verdicts.proofs.BenchSets.{declared_by, none_declared}
use Rattle.mothra_verdicts.proofs.bench.Bench.is_declared.Goals as goal

pub returns-then-is_empty : goal.returns-then-is_empty
returns-then-is_empty c =
    none_declared c.args.self.now.declared c.self.inside.named.keys (ticket c.args.ticket.op (original_number c.args.self.now.plan.every c.args.ticket.number))
    (subst (λ (declared : List Ticket). AreNamed declared c.self.inside.named.keys) (ap (λ (bench : BenchFields). bench.declared) c.self.view_is) c.self.invariant.1)
    (c.is_empty.ensures.0 c.if-is_empty.true)

pub returns-in-Ok : goal.returns-in-Ok
returns-in-Ok c =
    let every : c.every.result ≡ c.args.self.now.plan.every = c.every.ensures ∙ ap (λ (bench : BenchFields). bench.plan.every) c.self.view_is in
    let number : c.in-Ok.number ≡ original_number c.args.self.now.plan.every c.args.ticket.number
    = c.in-Ok.ensures.1 ∙ c.original_number.ensures ∙ ap (λ e. original_number e c.args.ticket.number) every in
    declared_by c.args.self.now.declared c.self.inside.named.keys (ticket c.args.ticket.op c.in-Ok.number) _ c.contains.result
    (subst (λ (declared : List Ticket). AreNamed declared c.self.inside.named.keys) (ap (λ (bench : BenchFields). bench.declared) c.self.view_is) c.self.invariant.1)
    c.contains.ensures (ap (ticket c.args.ticket.op) number)
