use Rattle.mothra_cli.proofs.Common.{◌≡◌, false, ◌≤◌, ◌-◌, vec_len, Consumes, has_failed, inside}
use Rattle.mothra_cli.proofs.input.read_input.Given as goal

abbrev pub invariant-loop-chunk : goal.invariant-loop-chunk
invariant-loop-chunk g l = record {
  consumed : Consumes (g.R.Read.remaining (inside l.fn.reader)) (g.R.Read.remaining (inside l.reader)) l.bytes.items;
  within : vec_len l.bytes ≤ 1048577;
  sound : has_failed l.reader ≡ false;
}

abbrev pub decreases-loop-chunk : goal.decreases-loop-chunk
decreases-loop-chunk g l = 1048577 - vec_len l.bytes
