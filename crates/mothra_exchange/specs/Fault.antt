-- When an exchange can not be made.
use Rattle.std.specs.Prelude.{ℕ, ◌<◌, ◌≤◌, List, slice_index}
use Rattle.mothra_codes.specs.Op.{index}
use Rattle.mothra_exchange.specs.Word.{largest_count}
use Rattle.mothra_exchange.specs.declared.fault.ExchangeFault.{ExchangeFault}
use Rattle.mothra_exchange.specs.declared.fault.ExchangeFault.TheVariants.{Memory, CountTooLarge}

-- no operator has more tickets than a word can count
abbrev pub AllCountsFit : List ℕ → Type 0
AllCountsFit counts = (i : ℕ) → i < 22 → slice_index counts i ≤ largest_count

-- the fault for these counts: that of the first operator whose count
-- is too large; out of memory only where all counts fit
abbrev pub IsFaultOfCounts : List ℕ → ExchangeFault → Type 0
IsFaultOfCounts counts Memory = AllCountsFit counts
IsFaultOfCounts counts (CountTooLarge op) = (largest_count < slice_index counts (index op))
    × ((i : ℕ) → i < index op → slice_index counts i ≤ largest_count)
