use Rattle.f77_legal.proofs.Common.{map, take, IsLabelTable, line_of}
use Rattle.f77_legal.proofs.labels.Labels.of.Given as goal

abbrev pub invariant-loop-i : goal.invariant-loop-i
invariant-loop-i l = IsLabelTable l.labels (map line_of (take l.i l.lines))
