-- The mutants of a plan: the changed statement of each, and its line.
use Rattle.std.specs.Prelude.{ℕ, ◌+◌, ◌*◌, ◌-◌, List, [], ◌++◌, Option, map, codes}
use Rattle.std.specs.Fmt.{decimal}
use Rattle.std.specs.Option.{option_and_then, option_map, option_map_or}
use Rattle.f77_program.specs.Canonical.{statement_text}
use Rattle.f77_program.specs.Program.{LineFields, line_of}
use Rattle.f77_tree.specs.Statement.{statement_of, Statement}
use Rattle.mothra_codes.specs.Op.{code_of}
use Rattle.mothra_codes.specs.declared.op.Op.{Op}
use Rattle.mothra_ops.specs.Edits.{made, numbered}
use Rattle.mothra_ops.specs.Plan.{PlanFields, edits_of}
use Rattle.mothra_replacements.specs.Pools.{pools_of}
use Rattle.mothra_ops.specs.declared.edit.Edit.{Edit}
use Rattle.mothra_ops.specs.declared.mutant.Mutant.{Mutant}

-- the number of the statement that is changed, and what stands in its place
pub record MutantFields : Type 0 where
  pub number : ℕ
  pub statement : Statement

abbrev pub mutant_fields : Mutant → MutantFields
mutant_fields mutant =
    record { number = mutant.edit.statement; statement = statement_of mutant.stmt.value }

abbrev pub program_of : PlanFields → List LineFields
program_of plan = map line_of plan.checked.program

-- what an edit makes
abbrev pub mutant_made : List LineFields → Edit → Option MutantFields
mutant_made program edit =
    option_map (λ statement. record { number = edit.statement; statement = statement })
    (made (pools_of program) program edit)

-- what the operator's edit of this number makes, none where it has no such edit
abbrev pub mutant_of : PlanFields → Op → ℕ → Option MutantFields
mutant_of plan op number =
    option_and_then (mutant_made (program_of plan)) (numbered (edits_of plan op) number)

-- the number in the whole list of the item of this number in the list thinned by q
abbrev pub original_number : ℕ → ℕ → ℕ
original_number q number = (number - 1) * q + 1

-- how a mutant is named: the operator's code, its number, and its number in the whole list
abbrev pub mutant_name : ℕ → Op → ℕ → List ℕ
mutant_name q op number = code_of op
    ++ (codes " " ++ (decimal number ++ (codes " " ++ decimal (original_number q number))))

-- the line number of the statement of this number
abbrev pub line_number_at : List LineFields → ℕ → ℕ
line_number_at program number = option_map_or (λ line. line.line) (numbered program number) 0

-- Rule: lines of mutants
-- where a mutant is changed: the line number of the
-- statement, and the text of what stands in its place
abbrev pub change_text : List LineFields → MutantFields → List ℕ
change_text program mutant = codes "LINE " ++ (decimal (line_number_at program mutant.number)
    ++ (codes " " ++ statement_text mutant.statement))

-- the line of the mutant of this number, which an edit makes, as ABS 2 3 LINE 4 K=IABS(I)
abbrev pub edit_text : List LineFields → ℕ → Op → ℕ → Edit → List ℕ
edit_text program q op number edit =
    option_map_or (λ mutant. mutant_name q op number ++ (codes " " ++ change_text program mutant))
    (mutant_made program edit) []

-- Rule: lines of mutants
-- the line of the plan's mutant of this number, no text where the operator has no such mutant
abbrev pub mutant_text : PlanFields → Op → ℕ → List ℕ
mutant_text plan op number = option_map_or (edit_text (program_of plan) plan.every op number)
    (numbered (edits_of plan op) number) []
