-- The values that DATA gives the slots, group by group. Names have slots in the order of a list.
use Rattle.std.specs.Prelude.{◌<◌, ◌^◌, ◌+◌, ◌∷◌, if◌then◌else◌, ℕ, Bool, false, not, List, []}
use Rattle.std.specs.Prelude.{map, fold, take, drop, Option, Some, is_some, slice_get, slice_set}
use Rattle.std.specs.List.{flat_map, list_all}
use Rattle.std.specs.Option.{option_map_or}
use Rattle.indexmap.specs.IndexMap.{keys}
use Rattle.f77_tree.specs.Tree.{GroupFields}
use Rattle.f77_tree.specs.declared.data.Constant.{Constant}
use Rattle.f77_tree.specs.declared.data.Value.{Value}
use Rattle.f77_legal.specs.Blocks.{first_numbers}
use Rattle.f77_check.specs.code.Kept.{is_kept}
use Rattle.f77_legal.specs.NameTable.{array_bounds}
use Rattle.f77_legal.specs.Names.{Symbol}
use Rattle.f77_legal.specs.InitialValues.{product}
use Rattle.f77_check.specs.Slots.{slot_count, first_slot}
use Rattle.f77_check.specs.SlotTable.{IsSlotTable}
use Rattle.f77_legal.specs.declared.names.Names.{Names}
use Rattle.f77_check.specs.declared.resolve.Resolver.{Resolver}

-- the slots of a name: none if it is not in the list
abbrev pub slots_of : (Symbol → List ℕ) → List Symbol → Symbol → List ℕ
slots_of bounds names name =
    option_map_or (λ first. map (λ k. first + k) (first_numbers (product (bounds name))))
    (first_slot bounds names name) []

-- the slot has no value
abbrev pub is_free : List (Option Constant) → ℕ → Bool
is_free held slot = option_map_or (λ cell. not (is_some cell)) (slice_get held slot) false

-- the slot is given the constant, unless it has a value
abbrev pub give : Constant → List (Option Constant) → ℕ → List (Option Constant)
give constant held slot = if is_free held slot then slice_set held slot (Some constant) else held

-- each of these slots is given the constant
abbrev pub give_run : Constant → List (Option Constant) → List ℕ → List (Option Constant)
give_run constant = fold (give constant)

-- the slots are given the values in order, each as often as it is repeated
abbrev pub give_values : List (Option Constant) → List ℕ → List Value → List (Option Constant)
give_values held slots [] = held
give_values held slots (value ∷ values) =
    give_values (give_run value.constant held (take value.times slots)) (drop value.times slots) values

abbrev pub give_group : (Symbol → List ℕ) → List Symbol → List (Option Constant) → GroupFields → List (Option Constant)
give_group bounds names held group = give_values held (flat_map (slots_of bounds names) group.names) group.values

abbrev pub give_groups : (Symbol → List ℕ)
    → List Symbol → List (Option Constant) → List GroupFields → List (Option Constant)
give_groups bounds names = fold (give_group bounds names)

-- the resolver has a table of slots, and few slots
pub record HasFewSlots (resolver : Resolver) : Type 0 where
  pub table : IsSlotTable resolver.slots resolver.tables.names
  pub few : slot_count (array_bounds resolver.tables.names) (keys resolver.tables.names.facts) < 2 ^ 32

-- the table has each name of the groups
abbrev pub groups_kept : Names → List GroupFields → Bool
groups_kept names groups = list_all (λ group. list_all (is_kept names) group.names) groups
