use Rattle.f77_run.proofs.Common.{◌≡◌, Some, map, take}
use Rattle.f77_actions.specs.declared.value.Value.TheVariants as held
use Rattle.f77_run.proofs.passing.truths.Given as goal

abbrev pub invariant-loop-cell : goal.invariant-loop-cell
invariant-loop-cell l = map (λ x. Some (held.Truth x)) l.truths.items ≡ take l.cell-index l.cells
