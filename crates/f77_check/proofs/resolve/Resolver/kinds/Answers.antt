use Rattle.f77_check.proofs.Common.{◌≡◌, ap, ◌∙◌, arith, ◌++◌, ◌+◌, ◌-◌, replicate, ◌^◌, min, product, array_bounds}
use Rattle.f77_check.proofs.SlotKinds.{none_listed, next_within, next_listed, all_listed, grown}
use Rattle.f77_check.proofs.resolve.Resolver.kinds.Goals as goal

pub loop-name-init : goal.loop-name-init
loop-name-init c = none_listed c.args.self.now.tables.names c.in_ok-kinds.kinds.items _ c.in_ok-kinds.ensures.items (cc)

pub loop-name-preserved : goal.loop-name-preserved
loop-name-preserved c =
    let names = c.args.self.now.tables.names in
    let name = c.in-Some.name.now in
    let kinds = c.loop-name.kinds.items in
    let within = next_within names kinds c.loop-name.name-iterator c.next.new.self name c.loop-name.invariant c.in-Some.ensures.steps in
    let size = c.product-count.ensures ∙ ap (λ z. min (product z) (2 ^ 64 - 1)) c.bounds.ensures in
    let few = c.requires.few in
    let exact : c.product-count.result ≡ product (array_bounds names name) = omega (arith, within, size, few) in
    next_listed names kinds c.loop-name.name-iterator c.next.new.self name c.loop-name.invariant c.in-Some.ensures.steps c.resize.new.self.items
    (c.in_ok-resize.ensures.items
    ∙ grown kinds _ c.loop-name.kinds.len c.product-count.result c.kind.result c.loop-name.kinds.ok.0 (ap (λ long. long + c.product-count.result) c.len.ensures)
    ∙ (λ i. kinds ++ replicate (exact i) (c.kind.ensures i)))

pub returns : goal.returns
returns c =
    all_listed c.args.self.now.tables.names c.loop-name.kinds.items c.loop-name.name-iterator c.loop-name.invariant c.in-None.ensures.steps.0
