-- Statements from which control goes one way.
use Rattle.std.specs.Prelude.{◌≡◌}
use Rattle.f77_equivalence.specs.Prelude.{Resolved}

-- control goes on from both to one statement, and the same DOs end at them
pub record HaveOneWayOn (r s : Resolved) : Type 0 where
  pub next : s.next ≡ r.next
  pub ends : s.ends.items ≡ r.ends.items
