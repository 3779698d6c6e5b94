-- DO loops: their ranges, and what a range may hold (ANSI
-- X3.9-1978, 11.10). Statements are numbered from 0 here.
use Rattle.std.specs.Prelude.{◌≡◌, ℕ, ◌&&◌, ◌||◌, ◌==◌, Bool, false, not, nat_lt}
use Rattle.std.specs.Prelude.{nat_le, List, filter, reverse, Option, Some, None}
use Rattle.std.specs.List.{list_any, list_all, starts_with}
use Rattle.std.specs.Option.{option_and_then, option_map_or}
use Rattle.std.specs.Cmp.Lexicographic.{pointwise}
use Rattle.std.specs.Str.{bytes_eq}
use Rattle.f77_program.specs.Program.{LineFields}
use Rattle.f77_tree.specs.Statement.{Statement, jumps_of}
use Rattle.f77_legal.specs.Blocks.{statement_numbers, branch_holds, breaks_block}
use Rattle.f77_legal.specs.Labels.{nth_statement, label_place, terminal_label}
use Rattle.f77_legal.specs.Names.{Symbol}

-- the terminal statement of a DO
abbrev pub terminal : List LineFields → ℕ → Option ℕ
terminal program d =
    option_and_then (label_place program) (option_and_then terminal_label (nth_statement program d))

-- k is in the range of the DO d: it stands behind d, up to the terminal statement of d
abbrev pub range_holds : List LineFields → ℕ → ℕ → Bool
range_holds program d k = nat_lt d k && option_map_or (nat_le k) (terminal program d) false

-- a jump from i to j leaves the DO d: its range holds i and not j
abbrev pub is_left : List LineFields → ℕ → ℕ → ℕ → Bool
is_left program i j d = range_holds program d i && not (range_holds program d j)

-- the DOs that a jump from i to j leaves, the outermost first
abbrev pub left_by : List LineFields → ℕ → ℕ → List ℕ
left_by program i j = filter (is_left program i j) (statement_numbers program)

-- the DO d ends at statement t
abbrev pub ends_at : List LineFields → ℕ → ℕ → Bool
ends_at program t d = option_map_or (λ e. e == t) (terminal program d) false

-- the DOs that end at t, the innermost first
abbrev pub loops_ending : List LineFields → ℕ → List ℕ
loops_ending program t = reverse (filter (ends_at program t) (statement_numbers program))

-- the branches that hold k, each as the number of the statement that begins it, the outermost first
abbrev pub branches : List LineFields → ℕ → List ℕ
branches program k = filter (λ i. branch_holds program i k) (statement_numbers program)

-- Rule: C11, C9 (11.6 to 11.10)
-- the DOs whose range holds k and the branches that hold it, the outermost first (11.6 to 11.10)
abbrev pub enclosing : List LineFields → ℕ → List ℕ
enclosing program k =
    filter (λ i. range_holds program i k || branch_holds program i k) (statement_numbers program)

abbrev pub same_numbers : List ℕ → List ℕ → Bool
same_numbers = pointwise (λ a b. a == b)

-- a DO d that ends at t would end before it begins, in another branch, or outside of a range that
-- holds it
abbrev pub ends_outside : List LineFields → ℕ → ℕ → Bool
ends_outside program d t =
    not (nat_lt d t
    && (same_numbers (branches program d) (branches program t)
    && list_all (λ e. not (range_holds program e d) || range_holds program e t)
    (statement_numbers program)))

-- Rule: C11, C9 (11.6 to 11.10)
-- the DO d has a terminal statement at which it may not end (11.10)
abbrev pub breaks_range : List LineFields → ℕ → Bool
breaks_range program d = option_map_or (ends_outside program d) (terminal program d) false

-- all DOs are nested
abbrev pub AreNested : List LineFields → Type 0
AreNested program = (d : ℕ) → breaks_range program d ≡ false

-- the block or the DO that begins at statement i is not nested
abbrev pub breaks_nesting : List LineFields → ℕ → Bool
breaks_nesting program i = breaks_block program i || breaks_range program i

-- control enters a range or a branch from outside where it goes from i to j (11.6 to 11.10)
abbrev pub goes_in : List LineFields → ℕ → ℕ → Bool
goes_in program i j = not (starts_with (λ a b. a == b) (enclosing program i) (enclosing program j))

-- Rule: C11, C9 (11.6 to 11.10)
-- a jump of the statement, as number i, leads into a range or a branch from outside (11.6 to 11.10)
abbrev pub jumps_in : List LineFields → ℕ → Statement → Bool
jumps_in program i statement =
    list_any (λ label. option_map_or (goes_in program i) (label_place program label) false)
    (jumps_of statement)

-- the variable that the statement sets itself: the target of an assignment, or a DO variable
abbrev pub set_by : Statement → Option Symbol
set_by (Statement.Assign name items tree) = Some name
set_by (Statement.LogicalIf tree statement) = set_by statement
set_by (Statement.Loop label name first last step) = Some name
set_by _ = None

-- the DO variable, if the statement is a DO (11.10)
abbrev pub do_variable_of : Statement → Option Symbol
do_variable_of (Statement.Loop label name first last step) = Some name
do_variable_of _ = None

-- statement i is in the range of the DO d, and d has this variable
abbrev pub holds_with : List LineFields → ℕ → Symbol → ℕ → Bool
holds_with program i name d = range_holds program d i
    && option_map_or (bytes_eq name)
    (option_and_then do_variable_of (nth_statement program d)) false

-- Rule: C12, C13, C14 (9, 11.10)
-- the statement, as number i, sets the variable of a DO whose range holds it
abbrev pub sets_variable : List LineFields → ℕ → Statement → Bool
sets_variable program i statement =
    option_map_or (λ name. list_any (holds_with program i name) (statement_numbers program))
    (set_by statement) false
