-- Several slots.
use Rattle.std.specs.Prelude.{◌+◌, ◌≤◌, ◌<◌, ℕ}
use Rattle.f77_facts.specs.declared.assigning.Slots.{Slots}

-- the slot is one of these
pub record HasSlot (slots : Slots) (k : ℕ) : Type 0 where
  pub above : slots.first ≤ k
  pub below : k < slots.first + slots.count
