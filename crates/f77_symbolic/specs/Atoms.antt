-- What atoms mean.
use Rattle.std.specs.Prelude.{◌≡◌, ◌+◌, ◌<◌, ℕ, ℤ, pos, Option, Some, None, length}
use Rattle.f77_symbolic.specs.Prelude.{Value, held_in, AreIn, number_of, FitsTable, Valuation, Atoms}
use Rattle.f77_symbolic.specs.Memory.{Start}

-- whether there is a value, as a number
abbrev pub presence_of : Option Value → ℤ
presence_of (Some value) = pos 1
presence_of None = pos 0

-- the numbers are those that the slots hold, and behind these whether each holds one
pub record AreNumbers (start : Start) : Type 0 where
  pub held : (slot : ℕ) → slot < length start.cells
      → start.numbers slot ≡ number_of (held_in start.cells slot)
  pub present : (slot : ℕ) → slot < length start.cells
      → start.numbers (length start.cells + slot) ≡ presence_of (held_in start.cells slot)

-- slots hold this at the start, and each atom has the number that it means then
pub record Interprets (atoms : Atoms) (start : Start) (v : Valuation) : Type 0 where
  pub known : AreIn atoms.facts.items start.cells
  pub are : AreNumbers start
  pub fits : FitsTable start.numbers v atoms.table
