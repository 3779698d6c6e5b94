use Rattle.f77_legal.proofs.Common.{◌∙◌, arith, ◌≤◌}
use Rattle.f77_legal.proofs.Products.{product_step}
use Rattle.f77_legal.proofs.initial_values.elements.Goals as goal

pub loop-bound-preserved : goal.loop-bound-preserved
loop-bound-preserved c =
    let small : c.args.most ≤ 340282366920938463463374607431768211455 = omega arith in
    c.loop-bound.invariant
    ∙ product_step c.loop-bound.product c.from.result c.saturating_mul-product.result c.loop-bound.bound-index c.args.most 340282366920938463463374607431768211455 c.args.bounds.now
    small c.loop-bound-test.true c.from.ensures c.saturating_mul-product.ensures
