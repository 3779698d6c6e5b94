-- What the table of slots has of a table of names.
use Rattle.std.specs.Prelude.{◌≡◌, map, take, length}
use Rattle.indexmap.specs.IndexMap.{keys}
use Rattle.f77_legal.specs.Blocks.{first_numbers}
use Rattle.f77_legal.specs.NameTable.{array_bounds}
use Rattle.f77_check.specs.Slots.{slot_count}
use Rattle.f77_legal.specs.declared.names.Names.{Names}
use Rattle.f77_check.specs.declared.slots.Slots.{Slots}

-- the table has the first slot of each name, and the number of all slots
pub record IsSlotTable (slots : Slots) (names : Names) : Type 0 where
  pub first : slots.first.items
      ≡ map (λ n. slot_count (array_bounds names) (take n (keys names.facts)))
      (first_numbers (length (keys names.facts)))
  pub count : slots.count ≡ slot_count (array_bounds names) (keys names.facts)
