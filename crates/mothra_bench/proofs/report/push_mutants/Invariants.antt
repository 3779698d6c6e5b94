use Rattle.mothra_bench.proofs.Common.{◌≡◌, ◌++◌, take, flat_map, string_bytes, mutant_line}
use Rattle.mothra_bench.proofs.report.push_mutants.Given as goal

abbrev pub invariant-loop-entry : goal.invariant-loop-entry
invariant-loop-entry l = string_bytes l.text ≡ string_bytes l.fn.text ++ flat_map (mutant_line l.plan) (take l.entry-index l.entries)
