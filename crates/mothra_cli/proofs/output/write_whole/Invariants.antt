use Rattle.mothra_cli.proofs.Common.{◌≡◌, false, ◌≤◌, length, take, ◌-◌, Appends, has_failed, inside}
use Rattle.mothra_cli.proofs.output.write_whole.Given as goal

abbrev pub invariant-loop-written : goal.invariant-loop-written
invariant-loop-written g l = record {
  written : Appends (g.W.Write.contents (inside l.fn.writer)) (g.W.Write.contents (inside l.writer)) (take l.written l.text);
  within : l.written ≤ length l.text;
  sound : has_failed l.writer ≡ false;
}

abbrev pub decreases-loop-written : goal.decreases-loop-written
decreases-loop-written g l = length l.text - l.written
