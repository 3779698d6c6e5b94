-- The constants that code names, in the registers behind those of slots.
use Rattle.std.specs.Prelude.{◌≡◌, ℕ, ℤ, Some, slice_get}
use Rattle.f77_code.specs.declared.constants.Constants.{Constants}
use Rattle.f77_code.specs.Holds.{Plan}

-- the plan has the slots of the table, and each constant of the table in the same register
pub record BeginsPlan (plan : Plan) (table : Constants) : Type 0 where
  pub slots : plan.slots ≡ table.slots
  pub values : (k : ℕ) (z : ℤ)
      → slice_get table.values.items k ≡ Some z → slice_get plan.constants k ≡ Some z
