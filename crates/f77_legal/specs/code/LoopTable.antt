-- What the table of DOs and branches has of a program. Statements are numbered from 0 here.
-- Private functions and proofs alone cite what stands here.
use Rattle.std.specs.Prelude.{ℕ, ◌&&◌, ◌||◌, ◌==◌, ◌∷◌, Bool, false, not, nat_lt, nat_le}
use Rattle.std.specs.Prelude.{List, [], Option, slice_index_or, None}
use Rattle.std.specs.Option.{option_map_or}
use Rattle.f77_legal.specs.Enclosing.{in_branch}
use Rattle.f77_legal.specs.declared.enclosing.Ranges.{Ranges}

-- with these terminal statements, k is in the range of the DO d
abbrev pub is_in_do_range : List (Option ℕ) → ℕ → ℕ → Bool
is_in_do_range terminals d k =
    nat_lt d k && option_map_or (nat_le k) (slice_index_or terminals d None) false

-- d is a DO with k in its range, or begins a branch with k in it
abbrev pub holds_by : Ranges → ℕ → ℕ → Bool
holds_by ranges k d = is_in_do_range ranges.terminals.items d k || in_branch ranges.branch_ends.items d k

-- the DO d has i in its range and not k
abbrev pub is_left_by_table : Ranges → ℕ → ℕ → ℕ → Bool
is_left_by_table ranges i k d =
    is_in_do_range ranges.terminals.items d i && not (is_in_do_range ranges.terminals.items d k)

-- the branch that b begins has i in it and not k
abbrev pub leaves_branch : Ranges → ℕ → ℕ → ℕ → Bool
leaves_branch ranges i k b = in_branch ranges.branch_ends.items b i && not (in_branch ranges.branch_ends.items b k)

-- e begins a branch that holds one of d and t alone, or a range that holds d and not t
abbrev pub separates : Ranges → ℕ → ℕ → ℕ → Bool
separates ranges d t e =
    leaves_branch ranges d t e || (leaves_branch ranges t d e || is_left_by_table ranges d t e)

-- the DO d ends at statement t
abbrev pub ends_at_by_table : Ranges → ℕ → ℕ → Bool
ends_at_by_table ranges t d = option_map_or (λ e. e == t) (slice_index_or ranges.terminals.items d None) false

-- one of the numbers passes `to`, where `from` fails, or where `from` passed before and `to` did not; `left` says that
-- this was so before all of them
abbrev pub enters : (ℕ → Bool) → (ℕ → Bool) → Bool → List ℕ → Bool
enters from to left [] = false
enters from to left (d ∷ ds) = (to d && (left || not (from d))) || enters from to (left || (from d && not (to d))) ds
