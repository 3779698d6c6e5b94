use Rattle.f77_run.proofs.Common.{◌≡◌, length, map, ◌++◌, decoded, shown_cells, shown_as}
use Rattle.f77_run.proofs.Pushed.{pairs_left}
use Rattle.f77_run.proofs.registers.shown.Given as goal

-- what is shown so far, with the other slots
abbrev pub invariant-loop-kind : goal.invariant-loop-kind
invariant-loop-kind l =
    l.cells.items ++ map (λ pair. shown_as pair.0 (decoded pair.1)) (pairs_left l.kinds l.registers (length l.yielded))
    ≡ shown_cells l.kinds l.registers
