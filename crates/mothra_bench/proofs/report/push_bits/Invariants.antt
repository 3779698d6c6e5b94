use Rattle.mothra_bench.proofs.Common.{◌≡◌, ◌++◌, take, map, string_bytes, bit_of}
use Rattle.mothra_bench.proofs.report.push_bits.Given as goal

abbrev pub invariant-loop-kill : goal.invariant-loop-kill
invariant-loop-kill l = string_bytes l.text ≡ string_bytes l.fn.text ++ map bit_of (take l.kill-index l.kills)
