-- What the table of blocks has of a program.
-- Private functions and proofs alone cite what stands here.
use Rattle.std.specs.Prelude.{◌+◌, ◌-◌, ◌&&◌, ◌||◌, ◌==◌, if◌then◌else◌}
use Rattle.std.specs.Prelude.{ℕ, Bool, false, not, nat_lt, is_some, List, slice_index_or, take, Option, None}
use Rattle.std.specs.List.{find, list_any}
use Rattle.std.specs.Option.{option_map_or}
use Rattle.f77_program.specs.Program.{LineFields}
use Rattle.f77_tree.specs.Statement.{Statement}
use Rattle.f77_legal.specs.Blocks.{is_block_if, is_end_if, is_alternative, statement_numbers, has_at, is_level}
use Rattle.f77_legal.specs.declared.blocks.Blocks.{Blocks}
use Rattle.f77_legal.specs.declared.blocks.Extent.{Extent}
use Rattle.f77_legal.specs.declared.blocks.Extent.TheVariants.{Block, Branch}

-- the statement may end a whole block, or a branch of one
abbrev pub stops : Extent → Statement → Bool
stops Block statement = is_end_if statement
stops Branch statement = is_end_if statement || is_alternative statement

-- the end of the block or of the branch that begins at statement i
abbrev pub end_of : List LineFields → Extent → ℕ → Option ℕ
end_of program extent i =
    find (λ j. has_at (stops extent) program j && is_level program i j) (statement_numbers program)

-- the number of blocks that are open behind the statement, where `depth` were open before it
abbrev pub depth_behind : Statement → ℕ → ℕ
depth_behind statement depth =
    if is_block_if statement then depth + 1 else (if is_end_if statement then depth - 1 else depth)

-- k is one of the ends
abbrev pub is_end_among : List (Option ℕ) → ℕ → Bool
is_end_among ends k = list_any (λ end. option_map_or (λ place. place == k) end false) ends

-- one of the ends stands behind k
abbrev pub is_before_end : List (Option ℕ) → ℕ → Bool
is_before_end ends k = list_any (λ end. option_map_or (nat_lt k) end false) ends

-- by the table, statement i is a block IF, ELSE IF, ELSE or END IF that is not nested
abbrev pub is_misplaced : Blocks → Statement → ℕ → Bool
is_misplaced table statement i =
    if is_block_if statement then not (is_some (slice_index_or table.ends.items i None))
    else (if is_end_if statement then not (is_end_among table.ends.items i)
    else (is_alternative statement
    && (not (is_before_end (take i table.ends.items) i) || is_end_among table.else_ends.items i)))
