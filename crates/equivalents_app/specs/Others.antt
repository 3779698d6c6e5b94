-- What is told of mutants that are not named: rows, which are tests that may kill
-- them, as the key `suite` of a job has them, and where their proofs were given up.
use Rattle.std.specs.Prelude.{◌++◌, ℕ, Bool, true, false, List, [], Option, Some, None, codes, flat_map}
use Rattle.equivalents_app.specs.Prelude.{decimal, option_map_or, signed_decimal, Arg, Ticket, Unproved, mutant_name}
use Rattle.f77_meaning.specs.declared.argument.Arg.TheVariants.{Int, Truth, Ints, Truths}
use Rattle.f77_program.specs.Joined.{enclosed_text}
use Rattle.mothra_equivalents.specs.declared.unproved.Left.{Left}

abbrev pub truth_text : Bool → List ℕ
truth_text true = codes "true"
truth_text false = codes "false"

-- values in brackets, with commas between them
abbrev pub json_list : {A : Type 0} → (A → List ℕ) → List A → List ℕ
json_list text items = enclosed_text (codes "[") text items (codes "]")

abbrev pub json_value : Arg → List ℕ
json_value (Int z) = signed_decimal z
json_value (Truth b) = truth_text b
json_value (Ints zs) = json_list signed_decimal zs
json_value (Truths bs) = json_list truth_text bs

-- the line of a row: the mutant's name, and the values of all dummy arguments as JSON
abbrev pub row_line : ℕ → Ticket → List Arg → List ℕ
row_line every ticket row =
    codes "ROW " ++ (mutant_name every ticket.op ticket.number
    ++ (codes " " ++ (json_list json_value row ++ codes "\n")))

abbrev pub row_lines : ℕ → Unproved → List ℕ
row_lines every one = flat_map (row_line every one.ticket) one.rows.items

-- the end of the line: the variable or array of which values were compared, if any were
abbrev pub compared_text : Option (List ℕ) → List ℕ
compared_text (Some name) = codes " VALUES " ++ (name ++ codes "\n")
compared_text None = codes "\n"

-- the line of a mutant: its name, and the lines at which the program
-- and the mutant were where the proof was given up
abbrev pub left_line : ℕ → Ticket → Left → List ℕ
left_line every ticket left =
    codes "LEFT " ++ (mutant_name every ticket.op ticket.number
    ++ (codes " AT " ++ (decimal left.own ++ (codes " " ++ (decimal left.other
    ++ compared_text left.name)))))

-- that line, if the proof was given up
abbrev pub left_lines : ℕ → Unproved → List ℕ
left_lines every one = option_map_or (left_line every one.ticket) one.left []
