-- Which branches hold a statement, from the ends of branches. Statements are numbered from 0 here.
use Rattle.std.specs.Prelude.{◌&&◌}
use Rattle.std.specs.Prelude.{ℕ, Bool, false, nat_lt, List, slice_index_or, Option, None}
use Rattle.std.specs.Option.{option_map_or}

-- with these ends of branches, k stands in the branch that i begins
abbrev pub in_branch : List (Option ℕ) → ℕ → ℕ → Bool
in_branch ends i k = nat_lt i k && option_map_or (nat_lt k) (slice_index_or ends i None) false
