-- What the table of DOs and branches has of a program. Statements are numbered from 0 here.
use Rattle.std.specs.Prelude.{◌≡◌, ℕ, ◌||◌, Bool, List, filter, length, is_some, slice_index_or, Option, None}
use Rattle.std.specs.List.{range_with_len}
use Rattle.f77_program.specs.Program.{LineFields}
use Rattle.f77_legal.specs.Blocks.{branch_holds}
use Rattle.f77_legal.specs.Enclosing.{in_branch}
use Rattle.f77_legal.specs.Loops.{terminal}
use Rattle.f77_legal.specs.declared.enclosing.Ranges.{Ranges}

-- these are the terminal statements of the DOs of the program, and the ends of its branches
abbrev pub IsTerminals : List (Option ℕ) → List LineFields → Type 0
IsTerminals terminals program = (d : ℕ) → slice_index_or terminals d None ≡ terminal program d

-- the ends of branches hold the same statements as the branches of the program
abbrev pub IsBranches : List (Option ℕ) → List LineFields → Type 0
IsBranches ends program = (i k : ℕ) → in_branch ends i k ≡ branch_holds program i k

-- with these ends, a DO or a branch begins at d
abbrev pub is_head : List (Option ℕ) → List (Option ℕ) → ℕ → Bool
is_head terminals branch_ends d =
    is_some (slice_index_or terminals d None) || is_some (slice_index_or branch_ends d None)

-- where DOs and branches begin, in order
abbrev pub heads_of : Ranges → List ℕ
heads_of ranges = filter (is_head ranges.terminals.items ranges.branch_ends.items)
    (range_with_len 0 (length ranges.terminals.items))

-- the table has an entry for each statement, and its ends are those of the program
pub record IsRangeTable (ranges : Ranges) (program : List LineFields) : Type 0 where
  pub entries : length ranges.terminals.items ≡ length program
  pub terminals : IsTerminals ranges.terminals.items program
  pub branch_ends : IsBranches ranges.branch_ends.items program
  pub heads : ranges.heads.items ≡ heads_of ranges
