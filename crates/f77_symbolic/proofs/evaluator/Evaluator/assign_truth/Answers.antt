use Rattle.f77_symbolic.proofs.Common.{ap, ◌∙◌, slot_in, truth_in, slice_set, slot_of, cells_of}
use Rattle.f77_actions.specs.declared.value.Value.TheVariants as held
use Rattle.f77_symbolic.proofs.Steps.{assigned, truth_told}
use Rattle.f77_symbolic.proofs.evaluator.Evaluator.assign_truth.Goals as goal

pub returns-clause-acts : goal.returns-clause-acts
returns-clause-acts c statements i start v there holds inside =
    let cells = cells_of start.cells v c.args.side.now.writes.items in
    assigned start.cells v c.args.self.now c.location_of.new.self c.truth_of.new.self c.args.side.now _ c.go_on.new.side c.go_on.result c.args.resolved.now
    c.in_ok-location.location cells (slot_in cells c.args.e.now) (truth_in cells c.args.c.now) c.in_ok-b.b (λ b. held.Truth b)
    ((rw (c.deref-2.ensures.value, c.deref.ensures) at c.in_ok-location.ensures.yields) start v (c.in_ok-b.ensures.extends.back start v there) holds inside)
    (λ holds. (rw (c.deref-4.ensures.value, c.deref-3.ensures) at c.in_ok-b.ensures.yields) start v there holds inside)
    (λ here. c.in_ok-write.ensures.cells start.cells v inside here
    ∙ ap (λ content. slice_set cells (slot_of v c.in_ok-location.location) content) (truth_told c.in_ok-b.b _ c.from.result c.from.ensures (c.constant_term-term.ensures v)))
    (λ here. c.in_ok-write.ensures.inside v inside here) c.in_ok-write.ensures.turns (c.go_on.ensures v)
