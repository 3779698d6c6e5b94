use Rattle.mothra_replacements.proofs.Common.{◌≡◌, map, take, line_of, node_of}
use Rattle.mothra_replacements.specs.Pools as model
use Rattle.mothra_replacements.proofs.pools.executable_nodes.Given as goal

abbrev pub invariant-loop-line : goal.invariant-loop-line
invariant-loop-line l = map node_of l.list.items ≡ model.executable_nodes (map line_of (take l.line-index l.lines))
