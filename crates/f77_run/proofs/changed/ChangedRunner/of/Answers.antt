use Rattle.f77_run.proofs.Common.{◌≡◌, sym, subst, Code}
use Rattle.f77_run.proofs.changed.ChangedRunner.of.Goals as goal

pub invariant_of-result : goal.invariant_of-result
invariant_of-result c =
    let checked = c.args.checked.now in
    let same = sym c.of.ensures.code in
    record {
      checked = c.in_ok-code.ensures.checked;
      own = c.of.ensures.is checked.statements c.in_ok-code.ensures.code;
      slots = subst (λ (code : Code). code.constants.slots ≡ checked.slots) same c.in_ok-code.ensures.slots;
      begins = rw c.of.ensures.code c.in_ok-code.ensures.image;
      change = tt;
    }
