use Rattle.mothra_replacements.proofs.Common.{◌≡◌, map, NodeOf, replacement_of}
use Rattle.mothra_replacements.proofs.replacing.next_values.Given as goal

abbrev pub invariant-loop-constant : goal.invariant-loop-constant
invariant-loop-constant l =
    map replacement_of l.list.items ≡ map (λ constant. NodeOf.Initial (record { times = l.value.times; constant = constant })) l.yielded
