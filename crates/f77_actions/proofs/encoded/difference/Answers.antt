use Rattle.f77_actions.proofs.Common.{FitsSigned, w64, rules, sym, ◌∙◌, ◌-ℤ◌, to_z-of_z}
use Rattle.f77_actions.proofs.Faults as faults
use Rattle.f77_actions.proofs.Bounds as bounds
use Rattle.f77_actions.proofs.Sums as sums
use Rattle.f77_actions.proofs.encoded.difference.Goals as goal

pub returns-then-y-ge-UNDEFINED : goal.returns-then-y-ge-UNDEFINED
returns-then-y-ge-UNDEFINED c = λ r q a b.
    let fx = c.ranges.x in
    let fy = c.ranges.y in
    let u : FitsSigned w64 c.unfit.result = search rules in
    simp to_z-of_z (faults.right_none _ c.unfit.result c.args.x c.args.y (bounds.at_least c.args.y c.ranges.y c.if-y-ge-UNDEFINED.true) r q a b
    (c.unfit.ensures r q (simp to_z-of_z a) (simp to_z-of_z b)))

pub returns-then-is_value : goal.returns-then-is_value
returns-then-is_value c = λ r q a b.
    let fx = c.ranges.x in
    let fy = c.ranges.y in
    let hy = bounds.not_least c.args.y fy c.if-y-ge-UNDEFINED.false in
    let s : FitsSigned w64 (c.args.x -ℤ c.args.y) = sums.difference_small c.args.x c.args.y c.requires.x c.requires.y in
    let e = simp to_z-of_z at c.is_value.ensures in
    simp to_z-of_z (sums.difference_fits c.args.x c.args.y hy (sym e ∙ c.if-is_value.true) r q a b)

pub returns-else-is_value : goal.returns-else-is_value
returns-else-is_value c = λ r q a b.
    let fx = c.ranges.x in
    let fy = c.ranges.y in
    let hy = bounds.not_least c.args.y fy c.if-y-ge-UNDEFINED.false in
    let s : FitsSigned w64 (c.args.x -ℤ c.args.y) = sums.difference_small c.args.x c.args.y c.requires.x c.requires.y in
    let u : FitsSigned w64 c.unfit-else-is_value.result = search rules in
    let e = simp to_z-of_z at c.is_value.ensures in
    simp to_z-of_z (sums.difference_unfit c.unfit-else-is_value.result c.args.x c.args.y (sym e ∙ c.if-is_value.false) r q a b
    (c.unfit-else-is_value.ensures r q (simp to_z-of_z a) (simp to_z-of_z b)))
