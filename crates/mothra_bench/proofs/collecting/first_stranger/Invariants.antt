use Rattle.mothra_bench.proofs.Common.{All, take, IsKnown}
use Rattle.mothra_bench.proofs.collecting.first_stranger.Given as goal

abbrev pub invariant-loop-row : goal.invariant-loop-row
invariant-loop-row l = All (IsKnown l.bench) (take l.row-index l.rows)
