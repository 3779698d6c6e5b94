-- What atoms mean.
-- Private functions and proofs alone cite what stands here.
use Rattle.f77_symbolic.specs.Prelude.{Valuation, Atoms}
use Rattle.f77_symbolic.specs.{Start, Interprets}

-- what interprets the new atoms interprets the old ones
pub record Extends (old new : Atoms) : Type 0 where
  pub back : (start : Start) (v : Valuation) → Interprets new start v → Interprets old start v
