use Rattle.f77_code.proofs.Common.{bits_zero, zero_bits}
use Rattle.f77_code.proofs.Points.{below_zero, not_below_zero, by_negative, by_zero, by_positive}
use Rattle.f77_code.proofs.branching.by_sign.Goals as goal

pub returns-then-x-lt0 : goal.returns-then-x-lt0
returns-then-x-lt0 c = by_negative c.args.negative c.args.zero c.args.positive c.args.x (below_zero c.args.x c.ranges.x c.if-x-lt0.true)

pub returns-then-x-eq0 : goal.returns-then-x-eq0
returns-then-x-eq0 c = by_zero c.args.negative c.args.zero c.args.positive c.args.x (bits_zero c.args.x c.ranges.x c.if-x-eq0.true)

pub returns : goal.returns
returns c =
    by_positive c.args.negative c.args.zero c.args.positive c.args.x (not_below_zero c.args.x c.ranges.x c.if-x-lt0.false)
    (λ e. c.if-x-eq0.false (zero_bits c.args.x e))
