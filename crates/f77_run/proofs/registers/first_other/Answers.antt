use Rattle.f77_run.proofs.Common.{sym, arith, pos, ext_get_or}
use Rattle.f77_run.proofs.registers.first_other.Goals as goal

pub returns-clause-none : goal.returns-clause-none
returns-clause-none c =
    let past = c.places-test.false in
    ext_get_or (pos 0) c.args.items.now c.args.others.now c.requires
    (λ i below. sym (c.places.invariant i (pos 0) (omega (arith, below, past))))
