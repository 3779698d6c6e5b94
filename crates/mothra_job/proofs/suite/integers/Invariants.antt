use Rattle.mothra_job.proofs.Common.{◌≡◌, ◌++◌, drop, option_map, each, integer, items_view}
use Rattle.mothra_job.proofs.suite.integers.Given as goal

abbrev pub invariant-loop-value : goal.invariant-loop-value
invariant-loop-value l =
    option_map (λ zs. l.numbers.items ++ zs) (each integer (items_view (drop l.value-index l.values))) ≡ each integer (items_view l.values)
