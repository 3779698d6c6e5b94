use Rattle.mothra_bench.proofs.Common.{◌≡◌, ◌++◌, take, flat_map, filter, string_bytes, operator_line, all_ops, asked}
use Rattle.mothra_bench.proofs.report.push_operators.Given as goal

abbrev pub invariant-loop-op : goal.invariant-loop-op
invariant-loop-op l = string_bytes l.text ≡ string_bytes l.fn.text ++ flat_map (operator_line l.matrix) (filter (asked l.plan) (take l.op-index all_ops))
