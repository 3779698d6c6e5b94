use Rattle.mothra_equivalents.proofs.prover.Prover.spare.Goals as goal
use Rattle.mothra_equivalents.proofs.prover.Prover.spare.Goals.{then-is_none+then-not-is_left, else-is_none}

pub returns-clause-proved : goal.returns-clause-proved
returns-clause-proved c = rw (← c.number-number.ensures, ← c.in_ok-stmt.ensures.statement, ← c.requires.tours) c.in_ok-spare.ensures

pub returns-clause-tours : goal.returns-clause-tours
returns-clause-tours c = elim c.if-is_none.branch [
  | then-is_none+then-not-is_left w ↦ rw w.self-is
  | else-is_none w ↦ rw w.self-is
]
