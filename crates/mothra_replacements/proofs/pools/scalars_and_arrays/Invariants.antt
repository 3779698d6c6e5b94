use Rattle.mothra_replacements.proofs.Common.{◌≡◌, map, filter, not, ◌++◌, is_some, array_bounds, some_items, tree_of, scalar}
use Rattle.indexmap.specs.IndexMap.{keys}
use Rattle.mothra_replacements.proofs.pools.scalars_and_arrays.Given as goal

abbrev pub invariant-loop-name : goal.invariant-loop-name
invariant-loop-name l = record {
  scalars : map tree_of l.scalars.items ++ map scalar (filter (λ name. not (is_some (some_items (array_bounds l.names name)))) l.name-iterator)
      ≡ map scalar (filter (λ name. not (is_some (some_items (array_bounds l.names name)))) (keys l.names.facts));
  arrays : l.arrays.items ++ filter (λ name. is_some (some_items (array_bounds l.names name))) l.name-iterator
      ≡ filter (λ name. is_some (some_items (array_bounds l.names name))) (keys l.names.facts);
}
