use Rattle.f77_code.proofs.Common.{slice_set, to_z-of_z, at_least, not_least, point}
use Rattle.f77_code.proofs.Points.{fails, goes}
use Rattle.f77_code.proofs.Written.{put_held}
use Rattle.f77_code.proofs.assignment.put.Goals as goal

pub returns-then-x-ge-UNDEFINED-clause-runs : goal.returns-then-x-ge-UNDEFINED-clause-runs
returns-then-x-ge-UNDEFINED-clause-runs c = λ r turns a.
    let fx = c.ranges.x in
    fails c.failed.result c.args.registers.now turns c.args.x (at_least c.args.x fx c.if-x-ge-UNDEFINED.true) (λ f t. c.failed.ensures f (simp to_z-of_z t))
    (λ z. point c.args.next (slice_set c.args.registers.now c.args.to z) turns) r a

pub returns-clause-runs : goal.returns-clause-runs
returns-clause-runs c = λ r turns a.
    let fx = c.ranges.x in
    let e = simp to_z-of_z at c.write.ensures in
    rw e
    (goes c.args.registers.now turns c.args.x (not_least c.args.x fx c.if-x-ge-UNDEFINED.false)
    (λ z. point c.args.next (slice_set c.args.registers.now c.args.to z) turns) r a)

pub returns-clause-held : goal.returns-clause-held
returns-clause-held c =
    let fx = c.ranges.x in
    let e = simp to_z-of_z at c.write.ensures in
    rw e (put_held c.args.registers.now c.args.to c.args.x c.requires.x (not_least c.args.x fx c.if-x-ge-UNDEFINED.false) c.requires.held)
