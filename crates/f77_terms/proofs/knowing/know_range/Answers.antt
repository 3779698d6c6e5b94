use Rattle.f77_terms.proofs.Common.{sym, subst, AreKnown, IsIn}
use Rattle.f77_terms.proofs.Values.{ok_then}
use Rattle.f77_terms.proofs.knowing.know_range.Goals as goal

pub returns-in-Some : goal.returns-in-Some
returns-in-Some c =
    ok_then c.add_range.result c.add_range.ensures
    (λ x claim v holds defined is.
    let settled = c.settle.ensures v holds in
    let within = c.in-Some.ensures v (subst (AreKnown v) (sym c.deref.ensures.value) settled.known) defined in
    claim v settled (subst (IsIn c.in-Some.range) (sym is) within))

pub returns-in-None : goal.returns-in-None
returns-in-None c v holds defined is = c.settle.ensures v holds
