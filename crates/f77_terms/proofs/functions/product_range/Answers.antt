use Rattle.f77_terms.proofs.Common.{rules, SFits, w64, ◌*ℤ◌, to_z-of_z}
use Rattle.f77_terms.proofs.Orders.{between_products}
use Rattle.f77_terms.proofs.functions.product_range.Goals as goal

pub returns : goal.returns
returns c x y first second =
    let low : SFits w64 c.args.a.low = search rules in
    let high : SFits w64 c.args.a.high = search rules in
    between_products c.args.a.low x c.args.a.high y c.hull.result.low c.hull.result.high first.above first.below
    (c.hull.ensures.first (c.args.a.low *ℤ y) (simp to_z-of_z at (c.in_ok-multiple_range.ensures y second)))
    (c.hull.ensures.second (c.args.a.high *ℤ y) (simp to_z-of_z at (c.in_ok-multiple_range-2.ensures y second)))
