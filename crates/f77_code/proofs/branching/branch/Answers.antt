use Rattle.f77_code.proofs.Common.{pos, if◌then◌else◌, to_z-of_z, at_least, not_least, bits_zero, zero_bits, is_same, point}
use Rattle.f77_code.proofs.Points.{fails, branch_zero, branch_there}
use Rattle.f77_code.proofs.branching.branch.Goals as goal

pub returns-then-x-ge-UNDEFINED : goal.returns-then-x-ge-UNDEFINED
returns-then-x-ge-UNDEFINED c = λ r registers turns a.
    let fx = c.ranges.x in
    fails c.failed.result registers turns c.args.x (at_least c.args.x fx c.if-x-ge-UNDEFINED.true) (λ f t. c.failed.ensures f (simp to_z-of_z t))
    (λ z. point (if is_same z (pos 0) then c.args.next else c.args.there) registers turns) r a

pub returns-then-x-eq0 : goal.returns-then-x-eq0
returns-then-x-eq0 c = λ r registers turns a.
    branch_zero c.args.there c.args.next registers turns c.args.x (bits_zero c.args.x c.ranges.x c.if-x-eq0.true) r a

pub returns : goal.returns
returns c = λ r registers turns a.
    branch_there c.args.there c.args.next registers turns c.args.x (not_least c.args.x c.ranges.x c.if-x-ge-UNDEFINED.false)
    (λ e. c.if-x-eq0.false (zero_bits c.args.x e)) r a
