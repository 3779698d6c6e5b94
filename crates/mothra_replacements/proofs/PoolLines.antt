-- The pools of a program, found in its table of names.
use Rattle.mothra_replacements.proofs.Common.{◌≡◌, map, List, ap, refl, ◌∙◌, [], filter, sym, ◌∷◌, not, ℕ, is_some, is_array, array_bounds, kind_at}
use Rattle.mothra_replacements.proofs.Common.{FactsFields, IsNameTable, facts_fields, facts_of, Symbol, symbols, uses, some_items, LineFields, Tree, scalar}
use Rattle.mothra_replacements.proofs.Common.{PoolFields, ascending, pools_of, operands_of}
use Rattle.std.specs.Map.{keys_of}
use Rattle.std.proofs.lemmas.Map.Made.{keys_of-map_values}
use Rattle.indexmap.specs.IndexMap.{keys}
use Rattle.f77_tree.specs.declared.tree.Kind.{Kind}
use Rattle.f77_legal.specs.Labels.{labels}
use Rattle.f77_legal.specs.declared.names.Names.{Names}
use Rattle.f77_legal.proofs.Lookups.{same_kinds, same_bounds}
use Rattle.f77_legal.proofs.NameTables.{rows}
use Rattle.mothra_replacements.specs.declared.operands.Operand.TheVariants as operand

keys_rows : (f : Symbol → FactsFields) (names : List Symbol) → keys_of (rows f names) ≡ names
keys_rows f [] = refl
keys_rows f (name ∷ names) = ap (λ z. name ∷ z) (keys_rows f names)

keys_are : (names : Names) (program : List LineFields) → IsNameTable names program → keys names.facts ≡ symbols program
keys_are names program is =
    sym (keys_of-map_values facts_fields names.facts.entries) ∙ (ap keys_of is ∙ keys_rows (facts_of (uses program)) (symbols program))

abbrev drawn_from : (Symbol → Kind) → (Symbol → List ℕ) → List Tree → List Symbol → List Tree → List Tree → List ℕ → PoolFields
drawn_from kinds bounds scalars arrays references constants ordered = record {
  kinds = kinds;
  bounds = bounds;
  scalars = scalars;
  arrays = arrays;
  references = references;
  constants = constants;
  labels = ordered;
}

-- what is known of a table of the program's names
module _ (names : Names) (program : List LineFields) (is : IsNameTable names program) where
  pub scalars_are : filter (λ name. not (is_some (some_items (array_bounds names name)))) (keys names.facts) ≡ filter (λ name. not (is_array program name)) (symbols program)
  scalars_are = λ i. filter (λ name. not (is_some (some_items (same_bounds names program is i name)))) (keys_are names program is i)

  pub arrays_are : filter (λ name. is_some (some_items (array_bounds names name))) (keys names.facts) ≡ filter (is_array program) (symbols program)
  arrays_are = λ i. filter (λ name. is_some (some_items (same_bounds names program is i name))) (keys_are names program is i)

  pub pools_are : (scalars : List Tree) (arrays : List Symbol) (references constants : List Tree) (ordered : List ℕ)
      → scalars ≡ map scalar (filter (λ name. not (is_array program name)) (symbols program))
      → arrays ≡ filter (is_array program) (symbols program)
      → references ≡ operands_of program operand.ArrayReference
      → constants ≡ operands_of program operand.Constant
      → ordered ≡ ascending (labels program)
      → drawn_from (kind_at names) (array_bounds names) scalars arrays references constants ordered ≡ pools_of program
  pools_are scalars arrays references constants ordered without with_bounds referred constant_is sorted = λ i. record {
    kinds = same_kinds names program is i;
    bounds = same_bounds names program is i;
    scalars = without i;
    arrays = with_bounds i;
    references = referred i;
    constants = constant_is i;
    labels = sorted i;
  }
