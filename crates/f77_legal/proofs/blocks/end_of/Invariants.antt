use Rattle.f77_legal.proofs.Common.{map, line_of}
use Rattle.f77_legal.proofs.BlockScan.{Scanning}
use Rattle.f77_legal.proofs.blocks.end_of.Given as goal

abbrev pub invariant-loop-j : goal.invariant-loop-j
invariant-loop-j l = Scanning (map line_of l.lines) l.extent l.start l.j l.depth
