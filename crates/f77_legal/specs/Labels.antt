-- Labels: which stand on a statement, which are named, and to which statements a label may lead
-- (ANSI X3.9-1978, 3.4 and 11.1 to 11.10).
use Rattle.std.specs.Prelude.{◌==◌, ◌||◌, ℕ, Bool, true, false, not, nat_le, List, length}
use Rattle.std.specs.Prelude.{filter, Option, Some, None, is_some, option_map, position}
use Rattle.std.specs.List.{filter_map, list_any, slice_get}
use Rattle.std.specs.Option.{option_and_then, option_map_or}
use Rattle.f77_program.specs.Program.{LineFields}
use Rattle.f77_tree.specs.Statement.{Statement, jumps_of}

-- the labels that stand on a statement, in order (3.4)
abbrev pub labels : List LineFields → List ℕ
labels program = filter_map (λ line. line.label) program

-- the line has this label
abbrev pub bears : ℕ → LineFields → Bool
bears label line = option_map_or (λ own. own == label) line.label false

-- Rule: C6, C7, C8, C10 (3.4, 11.1 to 11.10)
-- the label stands on two statements (3.4)
abbrev pub is_double : List LineFields → ℕ → Bool
is_double program label = nat_le 2 (length (filter (bears label) program))

-- the number, from 0, of the first statement with the label
abbrev pub label_place : List LineFields → ℕ → Option ℕ
label_place program label = position (bears label) program

-- statement i of a program, counted from 0
abbrev pub nth_statement : List LineFields → ℕ → Option Statement
nth_statement program i = option_map (λ line. line.stmt) (slice_get program i)

-- the first statement with the label
abbrev pub statement_with : List LineFields → ℕ → Option Statement
statement_with program label = option_and_then (nth_statement program) (label_place program label)

-- the label of the terminal statement that a DO names
abbrev pub terminal_label : Statement → Option ℕ
terminal_label (Statement.Loop label name first last step) = Some label
terminal_label _ = None

-- Rule: C6, C7, C8, C10 (3.4, 11.1 to 11.10)
-- the statement names a label that stands on no statement (11.1 to 11.10)
abbrev pub names_no_label : List LineFields → Statement → Bool
names_no_label program statement =
    list_any (λ label. not (is_some (label_place program label))) (jumps_of statement)
    || option_map_or (λ label. not (is_some (label_place program label)))
    (terminal_label statement) false

-- control may go to the statement: it is executable, and no ELSE IF or ELSE (11.1 to 11.10)
abbrev pub is_target : Statement → Bool
is_target (Statement.Subroutine name names) = false
is_target (Statement.Declare kind declarations) = false
is_target (Statement.Dimension declarations) = false
is_target (Statement.Preset groups) = false
is_target (Statement.ElseIf tree) = false
is_target Statement.Else = false
is_target _ = true

-- Rule: C6, C7, C8, C10 (3.4, 11.1 to 11.10)
-- a jump of the statement leads to a statement where control may not go (11.1 to 11.10)
abbrev pub jumps_badly : List LineFields → Statement → Bool
jumps_badly program statement =
    list_any (λ label. option_map_or (λ target. not (is_target target))
    (statement_with program label) false) (jumps_of statement)

-- Rule: C6, C7, C8, C10 (3.4, 11.1 to 11.10)
-- the statement may be the terminal statement of a DO: it is executable, no jump but a computed
-- GO TO, no DO, and no statement of a block IF (11.10)
abbrev pub is_terminal : Statement → Bool
is_terminal (Statement.Subroutine name names) = false
is_terminal (Statement.Declare kind declarations) = false
is_terminal (Statement.Dimension declarations) = false
is_terminal (Statement.Preset groups) = false
is_terminal (Statement.Goto label) = false
is_terminal (Statement.ArithIf tree first second third) = false
is_terminal (Statement.BlockIf tree) = false
is_terminal (Statement.ElseIf tree) = false
is_terminal Statement.Else = false
is_terminal Statement.EndIf = false
is_terminal (Statement.Loop label name first last step) = false
is_terminal Statement.Return = false
is_terminal Statement.Stop = false
is_terminal Statement.End = false
is_terminal _ = true

-- Rule: C6, C7, C8, C10 (3.4, 11.1 to 11.10)
-- the statement is a DO, and names a statement that may be no terminal statement (11.10)
abbrev pub ends_badly : List LineFields → Statement → Bool
ends_badly program statement =
    option_map_or (λ label. option_map_or (λ last. not (is_terminal last))
    (statement_with program label) false) (terminal_label statement) false
