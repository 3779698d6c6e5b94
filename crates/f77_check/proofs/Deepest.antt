-- The size of an item of a list.
use Rattle.f77_check.proofs.Common.{List, ℕ, [], arith, length, ◌∷◌, ◌<◌, get_or, ◌≤◌, suc, zero}
use denote.Param.Weighed.{most}

pub most_at : {X : Type 0} (size : X → ℕ) (xs : List X) (i : ℕ) (d : X) → i < length xs → size (get_or xs i d) ≤ most size xs
most_at size [] i d below = absurd (omega (arith, below))
most_at size (x ∷ xs) zero d below = omega arith
most_at size (x ∷ xs) (suc i) d below = omega (arith, most_at size xs i d (omega (arith, below)))
