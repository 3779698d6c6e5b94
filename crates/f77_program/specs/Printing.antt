-- A program printed in fixed form.
use Rattle.std.specs.Prelude.{◌≡◌, ℕ, nat_lt, if◌then◌else◌, List, map, Option, Some, None}
use Rattle.std.specs.List.{filter_map}
use Rattle.f77_source.specs.Card.{CardFields}
use Rattle.f77_source.specs.Write.{written, is_bad_label, continuation_count}
use Rattle.f77_tree.specs.Statement.{Statement}
use Rattle.f77_program.specs.Canonical.{statement_text}
use Rattle.f77_program.specs.Program.{LineFields}
use Rattle.f77_program.specs.declared.fault.SyntaxFault.{SyntaxFault}
use Rattle.f77_program.specs.declared.fault.SyntaxFault.TheVariants.{BadConstant, TooLong}

-- the card of a line, with the canonical text of its statement
abbrev pub card_of : LineFields → CardFields
card_of line = record { label = line.label; text = statement_text line.stmt; line = line.line }

-- Rule: canonical text, printing
-- the fixed-form lines of a program
abbrev pub printed : List LineFields → List ℕ
printed program = written (map card_of program)

-- the fault for which a line can not be printed: its label, or a statement that needs over 20 lines
unfoldable pub print_fault : LineFields → Option SyntaxFault
print_fault line =
    if is_bad_label line.label then Some (BadConstant line.line)
    else (if nat_lt 19 (continuation_count (statement_text line.stmt)) then Some (TooLong line.line)
    else None)

-- Rule: canonical text, printing
-- the faults for which the lines can not be printed, in the order of the lines
abbrev pub print_faults : List LineFields → List SyntaxFault
print_faults program = filter_map print_fault program

-- a line without its line number
abbrev pub unnumbered : LineFields → Option ℕ × Statement
unnumbered line = (line.label, line.stmt)

-- Rule: a program; the same program
-- two programs are equal apart from line numbers
abbrev pub AreEqualUnnumbered : List LineFields → List LineFields → Type 0
AreEqualUnnumbered program other = map unnumbered program ≡ map unnumbered other
