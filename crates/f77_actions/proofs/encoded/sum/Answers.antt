use Rattle.f77_actions.proofs.Common.{FitsSigned, w64, rules, sym, ◌∙◌, ◌+ℤ◌, to_z-of_z}
use Rattle.f77_actions.proofs.Sums as sums
use Rattle.f77_actions.proofs.encoded.sum.Goals as goal

pub returns-then-is_value : goal.returns-then-is_value
returns-then-is_value c = λ r q a b.
    let fx = c.ranges.x in
    let fy = c.ranges.y in
    let s : FitsSigned w64 (c.args.x +ℤ c.args.y) = sums.sum_small c.args.x c.args.y c.requires.x c.requires.y in
    let e = simp to_z-of_z at c.is_value.ensures in
    simp to_z-of_z (sums.sum_fits c.args.x c.args.y (sym e ∙ c.if-is_value.true) r q a b)

pub returns-else-is_value : goal.returns-else-is_value
returns-else-is_value c = λ r q a b.
    let fx = c.ranges.x in
    let fy = c.ranges.y in
    let s : FitsSigned w64 (c.args.x +ℤ c.args.y) = sums.sum_small c.args.x c.args.y c.requires.x c.requires.y in
    let u : FitsSigned w64 c.unfit.result = search rules in
    let e = simp to_z-of_z at c.is_value.ensures in
    simp to_z-of_z (sums.sum_unfit c.unfit.result c.args.x c.args.y (sym e ∙ c.if-is_value.false) r q a b (c.unfit.ensures r q (simp to_z-of_z a) (simp to_z-of_z b)))
