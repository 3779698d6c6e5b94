-- Where the products leave the range, so does the whole power.
use Rattle.f77_actions.proofs.Common.{arith, to_z-of_z}
use Rattle.std.proofs.lemmas.Result.{err_from_is_err_and}
use Rattle.f77_actions.proofs.Powers.{stays_beyond}
use Rattle.f77_actions.proofs.number.repeated_product.Goals as goal

pub returns-in_err-power : goal.returns-in_err-power
returns-in_err-power c =
    let p = err_from_is_err_and c.from_residual.result c.from_residual.ensures.1 in
    let fits = c.ranges.base in
    let same = simp to_z-of_z at c.loop.invariant in
    let product = simp to_z-of_z at c.in_err-power.ensures in
    rw (p.1, p.2) (stays_beyond c.args.base _ c.loop.counter c.args.factors _ c.requires same (omega arith) product)
