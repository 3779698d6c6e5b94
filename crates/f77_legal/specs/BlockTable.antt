-- What the table of blocks has of a program.
use Rattle.std.specs.Prelude.{◌≡◌, if◌then◌else◌}
use Rattle.std.specs.Prelude.{ℕ, List, map, Option, None}
use Rattle.f77_program.specs.Program.{LineFields}
use Rattle.f77_legal.specs.Blocks.{is_block_if, is_else, statement_numbers, has_at}
use Rattle.f77_legal.specs.Blocks.{block_end, branch_end, begins_branch}
use Rattle.f77_legal.specs.declared.blocks.Blocks.{Blocks}

-- the END IF of statement i, if that is a block IF
abbrev pub block_end_at : List LineFields → ℕ → Option ℕ
block_end_at program i = if has_at is_block_if program i then block_end program i else None

-- the end of the branch that statement i begins, if it begins one
abbrev pub branch_end_at : List LineFields → ℕ → Option ℕ
branch_end_at program i = if begins_branch program i then branch_end program i else None

-- a value for each statement, in order
abbrev pub tabled : {X : Type 0} → (List LineFields → ℕ → X) → List LineFields → List X
tabled value program = map (value program) (statement_numbers program)

-- the end of the branch that statement i begins, if that is an ELSE
abbrev pub else_end_at : List LineFields → ℕ → Option ℕ
else_end_at program i = if has_at is_else program i then branch_end program i else None

-- the table has of each statement what the program says of its block and its branch
pub record IsBlockTable (table : Blocks) (program : List LineFields) : Type 0 where
  pub ends : table.ends.items ≡ tabled block_end_at program
  pub else_ends : table.else_ends.items ≡ tabled else_end_at program
  pub branch_ends : table.branch_ends.items ≡ tabled branch_end_at program
