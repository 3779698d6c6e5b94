use Rattle.f77_terms.proofs.Values.{ok_then}
use Rattle.f77_terms.proofs.paths.refuted.Goals as goal

pub returns : goal.returns
returns c =
    ok_then c.is_refuted_with.result c.is_refuted_with.ensures
    (λ yes claim e v holds extra.
    let near = c.in_ok-near.ensures v holds in
    (rw c.deref-3.ensures.value at (rw c.deref-2.ensures.value at claim)) e v near near.known
    ((rw c.deref.ensures.value at c.in_ok-bounds.ensures) v near.below extra))
