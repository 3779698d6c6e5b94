-- Slots, in which the values of names are kept: a slot for each element, name by name in the order
-- of a list, the first subscript of an array varying fastest.
use Rattle.std.specs.Prelude.{ℕ, ◌+◌, List, map, replicate, take, Option, option_map, position}
use Rattle.std.specs.List.{flat_map, sum}
use Rattle.std.specs.Str.{bytes_eq}
use Rattle.f77_tree.specs.declared.tree.Kind.{Kind}
use Rattle.f77_legal.specs.Names.{Symbol}
use Rattle.f77_legal.specs.InitialValues.{product}

-- the number of slots of names with these bounds
abbrev pub slot_count : (Symbol → List ℕ) → List Symbol → ℕ
slot_count bounds names = sum (map (λ name. product (bounds name)) names)

-- the first slot of a name
abbrev pub first_slot : (Symbol → List ℕ) → List Symbol → Symbol → Option ℕ
first_slot bounds names name =
    option_map (λ n. slot_count bounds (take n names)) (position (bytes_eq name) names)

-- the kind of each slot
abbrev pub slot_kinds : (Symbol → Kind) → (Symbol → List ℕ) → List Symbol → List Kind
slot_kinds kinds bounds names =
    flat_map (λ name. replicate (product (bounds name)) (kinds name)) names

-- the largest number of slots of a legal program: one for each of 100 names, and 10,000 for the
-- elements of its arrays
abbrev pub most_slots : ℕ
most_slots = 100 + 10000
