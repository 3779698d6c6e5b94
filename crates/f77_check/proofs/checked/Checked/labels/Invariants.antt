use Rattle.f77_check.proofs.Common.{◌≡◌, map, take, labels, line_of}
use Rattle.f77_check.proofs.checked.Checked.labels.Given as goal

abbrev pub invariant-loop-line : goal.invariant-loop-line
invariant-loop-line l = l.list.items ≡ labels (map line_of (take l.line-index l.line-items))
