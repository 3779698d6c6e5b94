use Rattle.mothra_job.proofs.Common.{◌≡◌, ◌++◌, drop, option_map, each, argument, items_view}
use Rattle.mothra_job.proofs.suite.arguments.Given as goal

abbrev pub invariant-loop-value : goal.invariant-loop-value
invariant-loop-value l =
    option_map (λ xs. l.arguments.items ++ xs) (each argument (items_view (drop l.value-index l.values))) ≡ each argument (items_view l.values)
