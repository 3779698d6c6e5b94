-- The constants that code names, in the registers behind those of slots.
-- Private functions and proofs alone cite what stands here.
use Rattle.std.specs.Prelude.{◌≡◌, ◌+◌, ℕ, ℤ, Some, slice_get}
use Rattle.f77_code.specs.declared.constants.Constants.{Constants}

-- the table has this constant in the register r
pub record HasRegister (table : Constants) (r : ℕ) (z : ℤ) : Type 0 where
  pub place : ℕ
  pub behind : r ≡ table.slots + place
  pub value : slice_get table.values.items place ≡ Some z

-- the later table has each constant of the earlier one in the same register
pub record GrowsPlan (earlier later : Constants) : Type 0 where
  pub slots : later.slots ≡ earlier.slots
  pub values : (k : ℕ) (z : ℤ)
      → slice_get earlier.values.items k ≡ Some z → slice_get later.values.items k ≡ Some z
