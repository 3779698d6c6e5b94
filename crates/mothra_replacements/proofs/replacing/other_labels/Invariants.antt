use Rattle.mothra_replacements.proofs.Common.{◌≡◌, map, filter, not, take, nat_eq, NodeOf, replacement_of}
use Rattle.mothra_replacements.proofs.replacing.other_labels.Given as goal

abbrev pub invariant-loop-label : goal.invariant-loop-label
invariant-loop-label l =
    map replacement_of l.list.items ≡ map NodeOf.Labelled (filter (λ other. not (nat_eq other l.own)) (take l.label-index l.labels))
