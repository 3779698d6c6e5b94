-- The mutants that a job declares equivalent: each is named by the
-- code of its operator, one blank and its number.
use Rattle.std.specs.Prelude.{ℕ, ◌&&◌, nat_le, not, List, ◌++◌, codes, drop, filter, filter_map, map, take}
use Rattle.std.specs.Prelude.{Option, Some, None, if◌then◌else◌, is_some, option_and_then}
use Rattle.std.specs.Fmt.{decimal}
use Rattle.std.specs.List.{enumerate_from}
use Rattle.std.specs.Str.{bytes_eq}
use Rattle.std.specs.Str.Parse.{digits_value}
use Rattle.serde_json.specs.Data.{Data}
use Rattle.serde_json.specs.Find.{as_str}
use Rattle.mothra_job.specs.declared.job.JobFault.{JobFault}
use Rattle.mothra_job.specs.declared.job.JobFault.TheVariants.{Equivalent}
use Rattle.mothra_cli.specs.Operators.{operator_of}
use Rattle.mothra_codes.specs.Op.{code_of}
use Rattle.mothra_codes.specs.Ticket.{ticket}
use Rattle.mothra_codes.specs.declared.ticket.Ticket.{Ticket}

-- the name of a mutant; a number in decimal has no leading zero
abbrev pub ticket_text : Ticket → List ℕ
ticket_text t = code_of t.op ++ (codes " " ++ decimal t.number)

-- the mutant, where the text names it and its number is one that a list may have
abbrev pub if_named : List ℕ → Ticket → Option Ticket
if_named text t =
    if (nat_le 1 t.number && nat_le t.number 1048575) && bytes_eq (ticket_text t) text
    then Some t else None

-- Rule: the job, J2 to J8
-- the mutant that a text names; a code has three letters
unfoldable pub named : List ℕ → Option Ticket
named text = option_and_then (λ op. if_named text (ticket op (digits_value 10 (drop 4 text))))
    (operator_of (take 3 text))

-- the mutant that an entry names
abbrev pub ticket_of_value : Data → Option Ticket
ticket_of_value value = option_and_then named (as_str value)

-- the mutants that the entries name
abbrev pub tickets_named : List Data → List Ticket
tickets_named values = filter_map ticket_of_value values

-- J5 for each entry that names no mutant, in order; the first entry has the number `first`
abbrev pub entry_faults : ℕ → List Data → List JobFault
entry_faults first values =
    map (λ numbered. Equivalent numbered.0) (filter
    (λ numbered. not (is_some (ticket_of_value numbered.1))) (enumerate_from first values))
