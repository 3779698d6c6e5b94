use Rattle.f77_source.proofs.Common.{◌≡◌, length, ◌+◌, ◌≤◌, lines, nothing_read, progress_of}
use Rattle.f77_source.proofs.Runs.{run}
use Rattle.f77_source.proofs.read.read_form.Given as goal

abbrev pub invariant-loop-line : goal.invariant-loop-line
invariant-loop-line l = record {
  number : l.number + length l.rest ≤ length l.source;
  same : run 1 nothing_read (lines l.source) ≡ run (l.number + 1) (progress_of l.reader) (lines l.rest);
}

abbrev pub decreases-loop-line : goal.decreases-loop-line
decreases-loop-line l = length l.rest
