use Rattle.f77_check.proofs.Common.{array_bounds, keys}
use Rattle.f77_check.proofs.SlotCounts.{IsCounted}
use Rattle.f77_check.proofs.slots.Slots.of.Given as goal

abbrev pub invariant-loop-name : goal.invariant-loop-name
invariant-loop-name l =
    IsCounted (array_bounds l.names) (keys l.names.facts) l.first.items l.count l.name-iterator
