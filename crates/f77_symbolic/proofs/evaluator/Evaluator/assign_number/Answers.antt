use Rattle.f77_actions.specs.declared.value.Value.TheVariants as held
use Rattle.f77_symbolic.proofs.Common.{number_in, slot_in, sum_value, cells_of}
use Rattle.f77_symbolic.proofs.Steps.{assigned}
use Rattle.f77_symbolic.proofs.evaluator.Evaluator.assign_number.Goals as goal

pub returns-clause-acts : goal.returns-clause-acts
returns-clause-acts c statements i start v there holds inside =
    let cells = cells_of start.cells v c.args.side.now.writes.items in
    assigned start.cells v c.args.self.now c.location_of.new.self c.number_of.new.self c.args.side.now _ c.go_on.new.side c.go_on.result c.args.resolved.now
    c.in_ok-location.location cells (slot_in cells c.args.e.now) (number_in cells c.args.x.now) (sum_value v c.in_ok-term.term) (λ z. held.Number z)
    ((rw (c.deref-2.ensures.value, c.deref.ensures) at c.in_ok-location.ensures.yields) start v (c.in_ok-term.ensures.extends.back start v there) holds inside)
    (λ holds. (rw (c.deref-4.ensures.value, c.deref-3.ensures) at c.in_ok-term.ensures.yields) start v there holds inside)
    (λ here. c.in_ok-write.ensures.cells start.cells v inside here) (λ here. c.in_ok-write.ensures.inside v inside here) c.in_ok-write.ensures.turns (c.go_on.ensures v)
