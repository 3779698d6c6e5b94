-- Atoms that are made one after another.
use Rattle.f77_symbolic.proofs.Common.{Atoms, Extends}

-- no atom is made
pub extends_same : (atoms : Atoms) → Extends atoms atoms
extends_same atoms = record { back = λ start v is. is }

-- some are made, and then others
pub extends_then : {old mid new : Atoms} → Extends old mid → Extends mid new → Extends old new
extends_then first next = record { back = λ start v is. first.back start v (next.back start v is) }

-- some are made, or none
pub ruleset extending = (extends_same, extends_then)
