use Rattle.f77_code.proofs.Common.{◌≡◌, arith, ◌+◌, pos, ints, fault_number}
use Rattle.f77_code.proofs.ending.failed.Goals as goal

pub returns : goal.returns
returns c = λ fault a.
    let fx = c.ranges.x in let e : c.args.x ≡ pos (1099511627776 + fault_number fault) = a.is in omega (arith, ints)
