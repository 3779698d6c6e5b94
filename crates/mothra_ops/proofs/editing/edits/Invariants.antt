use Rattle.mothra_ops.proofs.Common.{◌≡◌, map, take, Mutant}
use Rattle.mothra_ops.proofs.editing.edits.Given as goal

abbrev pub invariant-loop-mutant : goal.invariant-loop-mutant
invariant-loop-mutant l = l.edits.items ≡ map (λ (mutant : Mutant). mutant.edit) (take l.mutant-index l.mutant-items)
