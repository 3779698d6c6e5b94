use Rattle.f77_legal.proofs.Common.{◌≡◌, length, behind_kinds, kinds_left}
use Rattle.f77_legal.proofs.initial_values.take_run.Given as goal

-- what is still needed decides
abbrev pub invariant-loop-rest : goal.invariant-loop-rest
invariant-loop-rest l = behind_kinds l.needed l.kind (kinds_left l.rest) ≡ behind_kinds l.fn.needed l.kind (kinds_left l.fn.rest)

abbrev pub decreases-loop-rest : goal.decreases-loop-rest
decreases-loop-rest l = length l.rest.values.now
