use Rattle.mothra_bench.proofs.Common.{◌≡◌, ◌++◌, take, flat_map, string_bytes, survivor_line, program_of}
use Rattle.mothra_ops.specs.Copies.{copied, statements_in}
use Rattle.mothra_bench.proofs.report.push_survivors.Given as goal

abbrev pub invariant-loop-entry : goal.invariant-loop-entry
invariant-loop-entry l =
    (string_bytes l.text ≡ string_bytes l.fn.text ++ flat_map (survivor_line l.plan) (take l.entry-index l.entries))
    × (copied l.copies ≡ statements_in (program_of l.plan))
