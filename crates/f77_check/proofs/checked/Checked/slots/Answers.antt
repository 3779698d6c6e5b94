use Rattle.f77_check.proofs.Common.{sym, subst, ◌≤◌, most_slots}
use Rattle.f77_check.proofs.CheckedParts.{checked_few}
use Rattle.f77_check.proofs.checked.Checked.slots.Goals as goal

pub returns-clause-few : goal.returns-clause-few
returns-clause-few c = subst (λ r. r.slots.count ≤ most_slots) (sym c.deref.ensures) (checked_few _ c.self.invariant.0)
