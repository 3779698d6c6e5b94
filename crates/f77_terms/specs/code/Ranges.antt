-- Ranges from 0 on.
-- Private functions and proofs alone cite what stands here.
use Rattle.std.specs.Prelude.{◌⊎◌, ℤ, pos}
use Rattle.f77_terms.specs.{LiesBetween}

-- the second number lies between 0 and the first
abbrev pub IsToward : ℤ → ℤ → Type 0
IsToward x z = LiesBetween (pos 0) z x ⊎ LiesBetween x z (pos 0)
