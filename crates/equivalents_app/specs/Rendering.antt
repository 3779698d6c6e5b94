-- The text that names the mutants of a plan that are proved equivalent.
use Rattle.std.specs.Prelude.{ℕ, zero, suc, Bool, List, ◌++◌, Option, Some, None, codes}
use Rattle.std.specs.Prelude.{filter_map, flat_map, if◌then◌else◌, length, nat_le}
use Rattle.equivalents_app.specs.Prelude.{decimal, asked_total, ticket, Ticket, Equivalent, Found}
use Rattle.equivalents_app.specs.Prelude.{mutant_text, original_number, PlanFields}
use Rattle.equivalents_app.specs.Others.{json_list, left_lines, row_lines}
use Rattle.mothra_job.specs.Equivalent.{ticket_text}

-- ---- in lines

-- what is promised: equivalent, or so with steps to spare
abbrev pub word_text : ℕ → List ℕ
word_text zero = codes "EQUIVALENT "
word_text (suc n) = codes "SPARE " ++ (decimal (suc n) ++ codes " ")

-- the line of a mutant: what is promised, its name, and the change that it makes
abbrev pub equivalent_line : PlanFields → Equivalent → List ℕ
equivalent_line plan e =
    word_text e.spare ++ (mutant_text plan e.ticket.op e.ticket.number ++ codes "\n")

-- the end of the last line: how many mutants were left at the bound on work, if any
abbrev pub unfinished_text : ℕ → List ℕ
unfinished_text zero = codes "\n"
unfinished_text (suc n) = codes ", " ++ (decimal (suc n) ++ codes " NOT FINISHED\n")

-- the lines of the named mutants, of rows, and of mutants whose proofs were given up; then how
-- many of the plan's mutants are proved equivalent, how many it has, and how many were left
abbrev pub lines_text : PlanFields → Found → List ℕ
lines_text plan found =
    flat_map (equivalent_line plan) found.list.items
    ++ (flat_map (row_lines plan.every) found.others.items
    ++ (flat_map (left_lines plan.every) found.others.items
    ++ (codes "PROVED " ++ (decimal (length found.list.items) ++ (codes " OF "
    ++ (decimal (asked_total plan) ++ unfinished_text found.unfinished))))))

-- ---- as the list that the key `equivalent` of a job takes

-- the mutant by its number in the whole list, where the key `equivalent` may have this number
abbrev pub if_declarable : ℕ → Equivalent → Option Ticket
if_declarable every e =
    if nat_le (original_number every e.ticket.number) 1048575
    then Some (ticket e.ticket.op (original_number every e.ticket.number)) else None

abbrev pub declarable : ℕ → List Equivalent → List Ticket
declarable every list = filter_map (if_declarable every) list

abbrev pub entry_text : Ticket → List ℕ
entry_text t = codes "\"" ++ (ticket_text t ++ codes "\"")

abbrev pub json_line : ℕ → List Equivalent → List ℕ
json_line every list = json_list entry_text (declarable every list) ++ codes "\n"

-- ---- lines or JSON, as asked for

-- Rule: what `equivalents` writes
abbrev pub written_text : PlanFields → Found → Bool → List ℕ
written_text plan found json =
    if json then json_line plan.every found.list.items else lines_text plan found
