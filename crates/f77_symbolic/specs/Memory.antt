-- What slots hold behind symbolic writes.
use Rattle.std.specs.Prelude.{◌∷◌, ◌≤ℤ◌, ◌<ℤ◌, ℕ, not, List, [], All, Option, Some, slice_set, pos}
use Rattle.f77_symbolic.specs.Prelude.{Value, is_same, Cells, Numbers, slot_behind, Valuation, sum_value, Location}
use Rattle.f77_symbolic.specs.Prelude.{Symbolic, Write}
use Rattle.f77_actions.specs.declared.value.Value.TheVariants as held
use Rattle.f77_symbolic.specs.declared.memory.Symbolic.TheVariants as symbolic

-- where a walk starts: what the slots hold, and the numbers that atoms may stand for
pub record Start : Type 0 where
  pub cells : Cells
  pub numbers : Numbers

abbrev pub slot_of : Valuation → Location → ℕ
slot_of v location = slot_behind location.first (sum_value v location.index)

-- the location is one of its slots
pub record IsInside (v : Valuation) (location : Location) : Type 0 where
  pub above : pos 0 ≤ℤ sum_value v location.index
  pub below : sum_value v location.index <ℤ pos location.count

-- so is each that was written to
abbrev pub AreInside : Valuation → List Write → Type 0
AreInside v writes = All (λ write. IsInside v write.location) writes

-- a truth value is true where its term is not 0
abbrev pub content_of : Valuation → Symbolic → Option Value
content_of v (symbolic.Number term) = Some (held.Number (sum_value v term))
content_of v (symbolic.Truth term) = Some (held.Truth (not (is_same (sum_value v term) (pos 0))))

-- what the slots hold behind the writes, the first of them first
abbrev pub cells_of : Cells → Valuation → List Write → Cells
cells_of cells v [] = cells
cells_of cells v (write ∷ writes) =
    cells_of (slice_set cells (slot_of v write.location) (content_of v write.value)) v writes
