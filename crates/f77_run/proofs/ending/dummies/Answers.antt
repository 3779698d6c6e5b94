use Rattle.f77_run.proofs.Common.{◌≡◌, ◌∙◌, ap, subst, Some, map, zip, dummies_read, both_ok, dummies_hold, dummies_within, AreFitting, values_in, size_of}
use Rattle.f77_run.proofs.Common.{span, shown_cells, shown_by}
use Rattle.f77_run.proofs.ending.dummies.Goals as goal

pub arguments-requires-2-clause-within : goal.arguments-requires-2-clause-within
arguments-requires-2-clause-within c =
    let checked = c.args.checked.now in
    let start = c.start-start.ensures.start in
    let kinds = c.deref.ensures.value ∙ ap (λ s. s.kinds.items) start in
    let slots = c.deref-2.ensures.value ∙ ap (λ s. s.dummies.items) start in
    let cells = c.deref-3.ensures.value ∙ c.in_ok-cells.ensures.cells ∙ ap (λ kinds. shown_cells kinds c.args.registers.now) kinds in
    rw (cells, slots, c.arguments.ensures)
    (dummies_within checked c.start-start.ensures.checked (shown_by checked c.args.registers.now) c.requires.dummies.count c.requires.dummies.typed)

pub arguments-requires-2-clause-hold : goal.arguments-requires-2-clause-hold
arguments-requires-2-clause-hold c =
    let checked = c.args.checked.now in
    let start = c.start-start.ensures.start in
    let kinds = c.deref.ensures.value ∙ ap (λ s. s.kinds.items) start in
    let slots = c.deref-2.ensures.value ∙ ap (λ s. s.dummies.items) start in
    let cells = c.deref-3.ensures.value ∙ c.in_ok-cells.ensures.cells ∙ ap (λ kinds. shown_cells kinds c.args.registers.now) kinds in
    rw (cells, slots, c.arguments.ensures)
    (dummies_hold checked c.start-start.ensures.checked (shown_by checked c.args.registers.now) c.requires.dummies.count c.requires.dummies.typed)

pub returns : goal.returns
returns c =
    let checked = c.args.checked.now in
    let start = c.start-start.ensures.start in
    let kinds = c.deref.ensures.value ∙ ap (λ s. s.kinds.items) start in
    let slots : c.deref-2.result.now ≡ checked.start.dummies.items = c.deref-2.ensures.value ∙ ap (λ s. s.dummies.items) start in
    let cells : c.deref-3.result.now ≡ shown_by checked c.args.registers.now
    = c.deref-3.ensures.value ∙ c.in_ok-cells.ensures.cells ∙ ap (λ kinds. shown_cells kinds c.args.registers.now) kinds in
    record {
      arguments = both_ok
          (λ arguments. AreFitting c.arguments.result.now arguments)
          (λ arguments. map (λ argument. map (λ v. Some v) (values_in argument)) arguments
          ≡ map (λ pair. span pair.1 (size_of pair.0) c.deref-3.result.now) (zip c.arguments.result.now c.deref-2.result.now))
          _
          c.arguments-2.result c.arguments-2.ensures.fitting c.arguments-2.ensures.values
          (λ arguments fits values.
          dummies_read checked c.start-start.ensures.checked (shown_by checked c.args.registers.now) c.requires.dummies.count c.requires.dummies.typed arguments
          (subst (λ list. AreFitting list arguments) c.arguments.ensures fits)
          (values ∙ (λ i. map (λ pair. span pair.1 (size_of pair.0) (cells i)) (zip (c.arguments.ensures i) (slots i)))));
    }
