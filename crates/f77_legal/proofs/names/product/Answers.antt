use Rattle.f77_legal.proofs.Common.{◌∙◌, ◌-◌, min, ◌*◌, ◌^◌}
use Rattle.f77_legal.proofs.Sizes.{product_more}
use Rattle.f77_legal.proofs.names.product.Goals as goal

pub loop-bound-preserved : goal.loop-bound-preserved
loop-bound-preserved c =
    c.saturating_mul-size.ensures
    ∙ (λ i. min (c.loop-bound.invariant i * c.from.ensures i) (2 ^ 64 - 1))
    ∙ product_more (2 ^ 64 - 1) c.args.bounds.now c.loop-bound.bound-index 0 c.loop-bound-test.true
