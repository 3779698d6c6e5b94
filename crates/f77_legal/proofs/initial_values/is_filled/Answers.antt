use Rattle.f77_legal.proofs.Common.{◌≡◌, ◌∙◌, ap, sym, false, length, arith, Some, None, ◌+◌, ◌<◌, drop, get_or, min, pointwise, option_map_or, array_bounds}
use Rattle.f77_legal.proofs.Common.{kind_at, product, behind_kinds, kinds_left, kinds_needed, same_kind}
use Rattle.f77_legal.proofs.Runs.{fill_at, behind_fewer}
use Rattle.f77_legal.proofs.initial_values.is_filled.Goals as goal

pub returns-in-None : goal.returns-in-None
returns-in-None c =
    let xs = c.deref-name-items.ensures.value in
    let below : c.loop-name.name-index < length c.args.group.now.names.items = rw xs at c.loop-name-test.true in
    let is : c.name-item.result ≡ get_or c.args.group.now.names.items c.loop-name.name-index c.name-item.result = rw xs at c.name-item.is in
    let need : c.elements.result ≡ min (product (array_bounds c.args.names.now c.name-item.result)) (c.count-most.result + 1) = rw c.bounds.ensures at c.elements.ensures in
    let step = fill_at (array_bounds c.args.names.now) (kind_at c.args.names.now) c.args.group.now.names.items c.loop-name.name-index
    c.name-item.result (kinds_left c.loop-name.rest) c.elements.result (c.count-most.result + 1) c.kind.result
    below is c.loop-name.invariant.few need c.kind.ensures in
    let taken : None ≡ behind_kinds c.elements.result c.kind.result (kinds_left c.loop-name.rest) = c.in-None.ensures in
    let others = kinds_needed (array_bounds c.args.names.now) (kind_at c.args.names.now) (drop (c.loop-name.name-index + 1) c.args.group.now.names.items) in
    sym (c.loop-name.invariant.filled ∙ step ∙ ap (λ left. option_map_or (pointwise same_kind others) left false) (sym taken))

pub loop-name-preserved : goal.loop-name-preserved
loop-name-preserved c =
    let xs = c.deref-name-items.ensures.value in
    let below : c.loop-name.name-index < length c.args.group.now.names.items = rw xs at c.loop-name-test.true in
    let is : c.name-item.result ≡ get_or c.args.group.now.names.items c.loop-name.name-index c.name-item.result = rw xs at c.name-item.is in
    let need : c.elements.result ≡ min (product (array_bounds c.args.names.now c.name-item.result)) (c.count-most.result + 1) = rw c.bounds.ensures at c.elements.ensures in
    let step = fill_at (array_bounds c.args.names.now) (kind_at c.args.names.now) c.args.group.now.names.items c.loop-name.name-index
    c.name-item.result (kinds_left c.loop-name.rest) c.elements.result (c.count-most.result + 1) c.kind.result
    below is c.loop-name.invariant.few need c.kind.ensures in
    let taken : Some (kinds_left c.in-Some.behind) ≡ behind_kinds c.elements.result c.kind.result (kinds_left c.loop-name.rest) = c.in-Some.ensures in
    let others = kinds_needed (array_bounds c.args.names.now) (kind_at c.args.names.now) (drop (c.loop-name.name-index + 1) c.args.group.now.names.items) in
    let fewer = behind_fewer c.elements.result c.kind.result (kinds_left c.loop-name.rest) (kinds_left c.in-Some.behind) (sym taken) in
    record {
      few = omega (arith, fewer, c.loop-name.invariant.few);
      filled = c.loop-name.invariant.filled ∙ step ∙ ap (λ left. option_map_or (pointwise same_kind others) left false) (sym taken);
    }
