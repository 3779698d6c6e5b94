-- One line of a source (ANSI X3.9-1978, 3.2): its columns, its kind, its label and its
-- part of a statement. Columns are numbered from 1. Those from 73 on do not count.
use Rattle.std.specs.Prelude.{ℕ, ◌-◌, ◌==◌, ◌&&◌, ◌||◌, not, Bool, true, if◌then◌else◌}
use Rattle.std.specs.Prelude.{List, take, drop, map, filter, Option, Some, None, slice_index_or}
use Rattle.std.specs.List.{list_all, list_any}
use Rattle.std.specs.Char.{is_ascii_digit, to_ascii_uppercase}
use Rattle.std.specs.Int.{is_in_range}
use Rattle.std.specs.Str.Parse.{digits_value}
use Rattle.f77_source.specs.declared.fault.FormFault.{FormFault}
use Rattle.f77_source.specs.declared.fault.FormFault.TheVariants.{NotAscii, Tab, BadLabel}
use Rattle.f77_source.specs.declared.line.LineKind.{LineKind}
use Rattle.f77_source.specs.declared.line.LineKind.TheVariants.{Comment, Initial, Continuation}

abbrev pub is_blank : ℕ → Bool
is_blank c = c == 32

-- columns 1 to 72
abbrev pub counted : List ℕ → List ℕ
counted line = take 72 line

-- columns 1 to 5
abbrev pub label_field : List ℕ → List ℕ
label_field line = take 5 line

-- columns 7 to 72
abbrev pub statement_field : List ℕ → List ℕ
statement_field line = drop 6 (counted line)

-- the character in column n, from 1: a blank where the line is shorter
abbrev pub column : List ℕ → ℕ → ℕ
column line n = slice_index_or line (n - 1) 32

-- Rule: lines and statements (3.2, 3.3)
-- a comment line has C, c or * in column 1, or only blanks in columns 1 to 72
unfoldable pub is_comment : List ℕ → Bool
is_comment line = (column line 1 == 67)
    || (column line 1 == 99) || (column line 1 == 42) || list_all is_blank (counted line)

-- Rule: lines and statements (3.2, 3.3)
-- the kind of a line: if it is no comment, column 6 decides, where a blank or 0 makes it initial
unfoldable pub kind : List ℕ → LineKind
kind line =
    if is_comment line then Comment
    else (if is_blank (column line 6) || (column line 6 == 48) then Initial else Continuation)

-- the number that the digits of columns 1 to 5 make, blanks left out
unfoldable pub field_number : List ℕ → ℕ
field_number line = digits_value 10 (filter (λ c. not (is_blank c)) (label_field line))

-- Rule: lines and statements (3.2, 3.3)
-- the label of an initial line, if it has one
unfoldable pub label : List ℕ → Option ℕ
label line = if list_all is_blank (label_field line) then None else Some (field_number line)

-- a digit or a blank, as columns 1 to 5 may have
abbrev pub is_label_character : ℕ → Bool
is_label_character c = is_ascii_digit c || is_blank c

-- columns 1 to 5 of an initial line hold digits and blanks alone; if there are digits, they are not
-- all zero
unfoldable pub is_label_field : List ℕ → Bool
is_label_field line =
    list_all is_label_character (label_field line)
    && (list_all is_blank (label_field line) || not (field_number line == 0))

-- Rule: lines and statements (3.2, 3.3)
-- what a line adds to its statement: columns 7 to 72, without blanks, in upper case
unfoldable pub line_part : List ℕ → List ℕ
line_part line = map to_ascii_uppercase (filter (λ c. not (is_blank c)) (statement_field line))

-- a byte outside 32 to 126 that is no tab; a comment or the columns from 73 on may hold it
abbrev pub is_foreign : ℕ → Bool
is_foreign c = not (is_in_range 32 126 c || (c == 9))

-- F3: columns 1 to 72 hold a byte outside 32 to 126 that is no tab (3.2)
abbrev pub has_foreign : List ℕ → Bool
has_foreign line = list_any is_foreign (counted line)

-- F4: columns 1 to 72 hold a tab (3.2)
abbrev pub has_tab : List ℕ → Bool
has_tab line = list_any (λ c. c == 9) (counted line)

-- columns 1 to 5 are as the kind wants: a label or blanks if it is initial, blanks if it continues
abbrev pub fits_label_field : LineKind → List ℕ → Bool
fits_label_field Initial line = is_label_field line
fits_label_field Continuation line = list_all is_blank (label_field line)
fits_label_field Comment line = true

-- a line by itself has no fault; of a comment nothing is asked
unfoldable pub is_well_formed : List ℕ → Bool
is_well_formed line = is_comment line
    || not (has_foreign line) && not (has_tab line) && fits_label_field (kind line) line

-- Rule: F2 to F7 (3.2, 3.3)
-- the fault of a line alone, which is line number n
unfoldable pub own_fault : ℕ → List ℕ → Option FormFault
own_fault n line =
    if is_comment line then None
    else (if has_foreign line then Some (NotAscii n)
    else (if has_tab line then Some (Tab n)
    else (if fits_label_field (kind line) line then None
    else Some (BadLabel n))))
