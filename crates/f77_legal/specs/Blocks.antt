-- Block IFs and their branches (ANSI X3.9-1978, 11.6 to 11.9). Statements are numbered from 0 here.
use Rattle.std.specs.Prelude.{◌+◌, ◌-◌, ◌==◌, ◌&&◌, ◌||◌, ◌∷◌, ◌++◌, if◌then◌else◌, ℕ, zero, suc, Bool, true}
use Rattle.std.specs.Prelude.{false, not, nat_lt, is_some, List, [], length, filter, take, drop, Option, Some}
use Rattle.std.specs.List.{find, list_any}
use Rattle.std.specs.Option.{option_map_or}
use Rattle.f77_program.specs.Program.{LineFields}
use Rattle.f77_tree.specs.Statement.{Statement}
use Rattle.f77_legal.specs.Labels.{nth_statement}

abbrev pub is_block_if : Statement → Bool
is_block_if (Statement.BlockIf tree) = true
is_block_if _ = false

abbrev pub is_end_if : Statement → Bool
is_end_if Statement.EndIf = true
is_end_if _ = false

abbrev pub is_else : Statement → Bool
is_else Statement.Else = true
is_else _ = false

-- ELSE IF and ELSE begin a further branch of a block
abbrev pub is_alternative : Statement → Bool
is_alternative (Statement.ElseIf tree) = true
is_alternative Statement.Else = true
is_alternative _ = false

-- 0, 1, .. n - 1
abbrev pub first_numbers : ℕ → List ℕ
first_numbers zero = []
first_numbers (suc n) = first_numbers n ++ (n ∷ [])

-- the numbers of the statements of a program, from 0
abbrev pub statement_numbers : List LineFields → List ℕ
statement_numbers program = first_numbers (length program)

-- there is a statement i, and it passes the test
abbrev pub has_at : (Statement → Bool) → List LineFields → ℕ → Bool
has_at test program i = option_map_or test (nth_statement program i) false

-- the number of statements between i and j that pass the test
abbrev pub count_between : (Statement → Bool) → List LineFields → ℕ → ℕ → ℕ
count_between test program i j =
    length (filter (λ line. test line.stmt) (take (j - suc i) (drop (suc i) program)))

-- j stands behind i, and each block that opens between them is closed there
abbrev pub is_level : List LineFields → ℕ → ℕ → Bool
is_level program i j =
    nat_lt i j && (count_between is_block_if program i j == count_between is_end_if program i j)

-- the END IF of the block that i opens or has a branch of
abbrev pub block_end : List LineFields → ℕ → Option ℕ
block_end program i =
    find (λ j. has_at is_end_if program j && is_level program i j) (statement_numbers program)

-- the end of the branch that i begins: the next ELSE IF, ELSE or END IF of the block
abbrev pub branch_end : List LineFields → ℕ → Option ℕ
branch_end program i = find
    (λ j. (has_at is_end_if program j || has_at is_alternative program j) && is_level program i j)
    (statement_numbers program)

-- the statement behind i: the next one, or the END IF of the block where the next is an ELSE IF or
-- ELSE
abbrev pub statement_behind : List LineFields → ℕ → Option ℕ
statement_behind program i =
    if has_at is_alternative program (i + 1) then block_end program (i + 1) else Some (i + 1)

-- i stands between a block IF and its END IF
abbrev pub is_in_block : List LineFields → ℕ → Bool
is_in_block program i =
    list_any
    (λ block. has_at is_block_if program block
    && (nat_lt block i && option_map_or (nat_lt i) (block_end program block) false))
    (statement_numbers program)

-- j is the END IF of a block IF
abbrev pub is_end_of_block : List LineFields → ℕ → Bool
is_end_of_block program j =
    list_any (λ block. has_at is_block_if program block
    && option_map_or (λ end. end == j) (block_end program block) false)
    (statement_numbers program)

-- i ends a branch that an ELSE begins
abbrev pub ends_else : List LineFields → ℕ → Bool
ends_else program i =
    list_any (λ branch. has_at is_else program branch
    && option_map_or (λ end. end == i) (branch_end program branch) false)
    (statement_numbers program)

-- i begins a branch of a block that has its END IF
abbrev pub begins_branch : List LineFields → ℕ → Bool
begins_branch program i =
    (has_at is_block_if program i && is_some (block_end program i))
    || (has_at is_alternative program i && is_in_block program i)

-- k stands in the branch that i begins
abbrev pub branch_holds : List LineFields → ℕ → ℕ → Bool
branch_holds program i k =
    begins_branch program i && (nat_lt i k && option_map_or (nat_lt k) (branch_end program i) false)

-- Rule: C11, C9 (11.6 to 11.10)
-- the statement is a block IF without END IF, an END IF without block IF, or an ELSE IF or ELSE
-- that stands in no block or behind the ELSE of its block
abbrev pub breaks_block : List LineFields → ℕ → Bool
breaks_block program i =
    (has_at is_block_if program i && not (is_some (block_end program i)))
    || ((has_at is_end_if program i && not (is_end_of_block program i))
    || (has_at is_alternative program i && (not (is_in_block program i) || ends_else program i)))
