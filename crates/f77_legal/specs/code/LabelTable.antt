-- What the table of labels has of a program.
-- Private functions and proofs alone cite what stands here.
use Rattle.std.specs.Prelude.{ℕ, true, false, Option, Some, None}
use Rattle.f77_legal.specs.declared.labels.Place.{Place}

-- the place of the label of statement i, where the statements before it gave this place
abbrev pub noted : Option Place → ℕ → Place
noted None i = record { first = i; again = false }
noted (Some place) i = record { first = place.first; again = true }
