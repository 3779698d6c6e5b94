use Rattle.f77_check.proofs.Common.{◌≡◌, ap, ◌∙◌, sym, subst, arith, ◌+◌, ◌-◌, ◌^◌, min, product, array_bounds, keys}
use Rattle.f77_check.proofs.SlotCounts.{IsCounted, part_within, counted_more, counted_all}
use Rattle.f77_check.proofs.slots.Slots.of.Goals as goal

pub overflow_add-count : goal.overflow_add-count
overflow_add-count c =
    let bounds = array_bounds c.args.names.now in
    let names = keys c.args.names.now.facts in
    let within = part_within bounds names c.loop-name.first.items c.loop-name.count c.loop-name.name-iterator c.loop-name.invariant c.in-Some.name.now c.next.new.self c.in-Some.ensures.steps in
    let size = c.product.ensures ∙ ap (λ z. min (product z) (2 ^ 64 - 1)) c.bounds.ensures in
    let few = c.requires in
    omega (arith, within, size, few)

pub loop-name-preserved : goal.loop-name-preserved
loop-name-preserved c =
    let bounds = array_bounds c.args.names.now in
    let names = keys c.args.names.now.facts in
    let within = part_within bounds names c.loop-name.first.items c.loop-name.count c.loop-name.name-iterator c.loop-name.invariant c.in-Some.name.now c.next.new.self c.in-Some.ensures.steps in
    let size = c.product.ensures ∙ ap (λ z. min (product z) (2 ^ 64 - 1)) c.bounds.ensures in
    let few = c.requires in
    let exact : c.product.result ≡ product (bounds c.in-Some.name.now) = omega (arith, within, size, few) in
    subst (λ first. IsCounted bounds names first (c.loop-name.count + c.product.result) c.next.new.self) (sym c.in_ok-push.ensures.items)
    (counted_more bounds names c.loop-name.first.items c.loop-name.count c.loop-name.name-iterator c.loop-name.invariant c.in-Some.name.now
    c.next.new.self c.in-Some.ensures.steps c.product.result exact)

pub returns : goal.returns
returns c =
    let all = counted_all (array_bounds c.args.names.now) (keys c.args.names.now.facts) c.loop-name.first.items c.loop-name.count
    c.loop-name.name-iterator c.loop-name.invariant c.in-None.ensures.steps.0 in
    record { first = all.0; count = all.1 }
