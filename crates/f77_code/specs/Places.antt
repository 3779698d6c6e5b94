-- The numbers of places: those of the statements come first, then those of the incrementations of
-- DOs.
use Rattle.std.specs.Prelude.{◌≡◌, ◌+◌, ◌&&◌, ℕ, Bool, List, length, Some, slice_get}
use Rattle.std.specs.List.{list_all}
use Rattle.f77_actions.specs.declared.resolved.Resolved.{Resolved}
use Rattle.f77_code.specs.declared.places.Places.{Places}
use Rattle.f77_code.specs.Compiling.{is_of_32_bits}
use Rattle.f77_code.specs.Holds.{do_rank}
use Rattle.f77_code.specs.Moves.{are_below}

-- the table has for each DO the place of its incrementation
pub record ArePlaces (statements : List Resolved) (places : Places) : Type 0 where
  pub first : places.first ≡ length statements
  pub count : length places.increments.items ≡ length statements
  pub each : (d k : ℕ)
      → slice_get places.increments.items d ≡ Some k → k ≡ length statements + do_rank statements d

-- the number of the statement behind has 32 bits, and the DOs that end here are among the first n
-- statements
abbrev pub has_places : ℕ → Resolved → Bool
has_places n r = is_of_32_bits r.next && are_below n r.ends.items

-- each statement has its places
abbrev pub have_places : List Resolved → Bool
have_places statements = list_all (has_places (length statements)) statements
