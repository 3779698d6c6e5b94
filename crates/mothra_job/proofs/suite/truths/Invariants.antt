use Rattle.mothra_job.proofs.Common.{◌≡◌, ◌++◌, drop, option_map, each, as_bool, items_view}
use Rattle.mothra_job.proofs.suite.truths.Given as goal

abbrev pub invariant-loop-value : goal.invariant-loop-value
invariant-loop-value l =
    option_map (λ bs. l.truths.items ++ bs) (each as_bool (items_view (drop l.value-index l.values))) ≡ each as_bool (items_view l.values)
